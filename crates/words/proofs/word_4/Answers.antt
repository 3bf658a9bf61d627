use Rattle.std.proofs.Common.{refl}
use Rattle.utf8.specs.Picks.{flags}
use Rattle.words.specs.Letters.{long_as, word_long}
use Rattle.reading.specs.Words.{keyword_token, keywords}
use Rattle.words.proofs.word_4.Goals as goal

pub returns-then-spelled : goal.returns-then-spelled
unfolding keyword_token long_as keywords
returns-then-spelled c rd = rw (word_long rd c.args.s.now c.args.o c.args.p 4 c.requires.0 refl refl) (search flags depth 12)

pub returns-then-spelled-2 : goal.returns-then-spelled-2
unfolding keyword_token long_as keywords
returns-then-spelled-2 c rd = rw (word_long rd c.args.s.now c.args.o c.args.p 4 c.requires.0 refl refl) (search flags depth 12)

pub returns-then-spelled-3 : goal.returns-then-spelled-3
unfolding keyword_token long_as keywords
returns-then-spelled-3 c rd = rw (word_long rd c.args.s.now c.args.o c.args.p 4 c.requires.0 refl refl) (search flags depth 12)

pub returns : goal.returns
unfolding keyword_token long_as keywords
returns c rd = rw (word_long rd c.args.s.now c.args.o c.args.p 4 c.requires.0 refl refl) (search flags depth 12)
