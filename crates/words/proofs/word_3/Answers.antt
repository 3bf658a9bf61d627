use Rattle.utf8.specs.Picks.{flags}
use Rattle.words.specs.Letters.{long_as, word_3}
use Rattle.reading.specs.Words.{keyword_token, keywords}
use Rattle.words.proofs.word_3.Goals as goal

pub returns-then-spelled : goal.returns-then-spelled
unfolding keyword_token long_as keywords
returns-then-spelled c = rw (word_3 _ c.args.s.now c.args.o c.args.p c.requires.0) (search flags depth 12)

pub returns-then-spelled-2 : goal.returns-then-spelled-2
unfolding keyword_token long_as keywords
returns-then-spelled-2 c = rw (word_3 _ c.args.s.now c.args.o c.args.p c.requires.0) (search flags depth 12)

pub returns-then-spelled-3 : goal.returns-then-spelled-3
unfolding keyword_token long_as keywords
returns-then-spelled-3 c = rw (word_3 _ c.args.s.now c.args.o c.args.p c.requires.0) (search flags depth 12)

pub returns-then-spelled-4 : goal.returns-then-spelled-4
unfolding keyword_token long_as keywords
returns-then-spelled-4 c = rw (word_3 _ c.args.s.now c.args.o c.args.p c.requires.0) (search flags depth 12)

pub returns-then-spelled-5 : goal.returns-then-spelled-5
unfolding keyword_token long_as keywords
returns-then-spelled-5 c = rw (word_3 _ c.args.s.now c.args.o c.args.p c.requires.0) (search flags depth 12)

pub returns-then-spelled-6 : goal.returns-then-spelled-6
unfolding keyword_token long_as keywords
returns-then-spelled-6 c = rw (word_3 _ c.args.s.now c.args.o c.args.p c.requires.0) (search flags depth 12)

pub returns : goal.returns
unfolding keyword_token long_as keywords
returns c = rw (word_3 _ c.args.s.now c.args.o c.args.p c.requires.0) (search flags depth 12)
