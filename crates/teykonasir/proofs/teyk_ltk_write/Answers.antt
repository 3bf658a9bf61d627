-- Nothing is written to an answer that is too short, else the three numbers of what became of the file.
use Rattle.std.proofs.Common.{refl}
use Rattle.teykonasir.proofs.Told.{write-short, write-whole}
use Rattle.teykonasir.proofs.teyk_ltk_write.Goals as goal

pub returns-then-answer-lt3 : goal.returns-then-answer-lt3
returns-then-answer-lt3 c = write-short _ _ _ c.if-answer-lt3.true

pub returns : goal.returns
returns c = rw c.put_answered.ensures.0 (write-whole _ _ _ c.if-answer-lt3.false _ c.write_numbers-writing.ensures.0 _ _ _ _ _ refl refl refl c.write_numbers-writing.ensures.1 c.put_answered.ensures.1)
