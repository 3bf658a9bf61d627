use Rattle.teykonasir.proofs.Told.{kind_short, kind_none, kind_came}
use Rattle.teykonasir.proofs.teyk_name_of_kind.Reads as reads
use Rattle.teykonasir.proofs.teyk_name_of_kind.Lts as lts
use Rattle.text.proofs.kind_name.Reads as kind-name-reads
use Rattle.teykonasir.proofs.came_code.Reads as came-code-reads
use Rattle.teykonasir.proofs.came_length.Reads as came-length-reads
use Rattle.teykonasir.proofs.teyk_name_of_kind.Goals as goal

pub returns-then-answer-lt1 : goal.returns-then-answer-lt1
returns-then-answer-lt1 c = kind_short _ _ _ c.if-answer-lt1.true

pub returns-then-kind-ge54 : goal.returns-then-kind-ge54
returns-then-kind-ge54 c = kind_none _ _ _ c.if-answer-lt1.false c.if-kind-ge54.true

pub returns : goal.returns
returns c = kind_came _ _ _ c.if-answer-lt1.false c.if-kind-ge54.false _ _ c.kind_name-came.ensures.0 c.kind_name-came.ensures.1 _ _ c.came_code.ensures c.came_length.ensures
