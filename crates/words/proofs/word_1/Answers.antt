use Rattle.utf8.specs.Picks.{flags}
use Rattle.words.specs.Letters.{word_1}
use Rattle.words.proofs.word_1.Goals as goal

pub returns-then-spelled : goal.returns-then-spelled
returns-then-spelled c rd = rw (word_1 rd c.args.s.now c.args.o c.args.p c.requires.0) (search flags depth 12)

pub returns : goal.returns
returns c rd = rw (word_1 rd c.args.s.now c.args.o c.args.p c.requires.0) (search flags depth 12)
