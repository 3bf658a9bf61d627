-- Nothing is written to an answer that is too short, else the three numbers of what the file is.
use Rattle.std.proofs.Common.{refl}
use Rattle.teykonasir.proofs.Told.{read_short, read_whole}
use Rattle.teykonasir.proofs.teyk_ltk_read.Goals as goal

pub returns-then-answer-lt3 : goal.returns-then-answer-lt3
returns-then-answer-lt3 c = read_short _ _ _ c.if-answer-lt3.true

pub returns : goal.returns
returns c = rw c.put_answered.ensures.0 (read_whole _ _ _ c.if-answer-lt3.false _ c.read_numbers-reading.ensures.0 _ _ _ _ _ refl refl refl c.read_numbers-reading.ensures.1 c.put_answered.ensures.1)
