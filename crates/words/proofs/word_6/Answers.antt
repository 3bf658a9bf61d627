use Rattle.std.proofs.Common.{refl}
use Rattle.utf8.specs.Picks.{flags}
use Rattle.words.specs.Letters.{long_as, word_long}
use Rattle.reading.specs.Words.{keyword_token, keywords}
use Rattle.words.proofs.word_6.Goals as goal

pub returns-then-spelled : goal.returns-then-spelled
unfolding keyword_token long_as keywords
returns-then-spelled c rd = rw (word_long rd c.args.s.now c.args.o c.args.p 6 c.requires.0 refl refl) (search flags depth 12)

pub returns : goal.returns
unfolding keyword_token long_as keywords
returns c rd = rw (word_long rd c.args.s.now c.args.o c.args.p 6 c.requires.0 refl refl) (search flags depth 12)
