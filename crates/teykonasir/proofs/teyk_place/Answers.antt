use Rattle.teykonasir.proofs.Told.{place_short, place_whole}
use Rattle.teykonasir.proofs.teyk_place.Reads as reads
use Rattle.teykonasir.proofs.teyk_place.Lts as lts
use Rattle.place.proofs.line_column.Reads as line-column-reads
use Rattle.teykonasir.proofs.put_reported.Reads as put-reported-reads
use Rattle.teykonasir.proofs.reported_code.Reads as reported-code-reads
use Rattle.teykonasir.proofs.teyk_place.Goals as goal

pub returns-then-answer-lt2 : goal.returns-then-answer-lt2
returns-then-answer-lt2 c = place_short _ _ _ c.if-answer-lt2.true

pub returns : goal.returns
returns c = place_whole _ _ _ c.if-answer-lt2.false _ c.line_column-told.ensures _ _ c.reported_code.ensures c.put_reported.ensures
