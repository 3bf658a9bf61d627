use Rattle.teykonasir.proofs.Told.{code-short, code_below, code-above, code_came}
use Rattle.teykonasir.proofs.teyk_name_of_code.Reads as reads
use Rattle.teykonasir.proofs.teyk_name_of_code.Lts as lts
use Rattle.text.proofs.code_name.Reads as code-name-reads
use Rattle.teykonasir.proofs.came_code.Reads as came-code-reads
use Rattle.teykonasir.proofs.came_length.Reads as came-length-reads
use Rattle.teykonasir.proofs.teyk_name_of_code.Goals as goal

pub returns-then-answer-lt1 : goal.returns-then-answer-lt1
returns-then-answer-lt1 c = code-short _ _ _ c.if-answer-lt1.true

pub returns-then-code-lt1 : goal.returns-then-code-lt1
returns-then-code-lt1 c = code_below _ _ _ c.if-answer-lt1.false c.if-code-lt1.true

pub returns-then-code-ge30 : goal.returns-then-code-ge30
returns-then-code-ge30 c = code-above _ _ _ c.if-answer-lt1.false c.if-code-lt1.false c.if-code-ge30.true

pub returns : goal.returns
returns c = code_came _ _ _ c.if-answer-lt1.false c.if-code-lt1.false c.if-code-ge30.false _ _ c.code_name-came.ensures.0 c.code_name-came.ensures.1 _ _ c.came_code.ensures c.came_length.ensures
