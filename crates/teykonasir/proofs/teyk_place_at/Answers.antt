use Rattle.teykonasir.proofs.Told.{place_at-short, place_at-whole}
use Rattle.teykonasir.proofs.teyk_place_at.Reads as reads
use Rattle.teykonasir.proofs.teyk_place_at.Lts as lts
use Rattle.place.proofs.place_at.Reads as place-at-reads
use Rattle.teykonasir.proofs.located_code.Reads as located-code-reads
use Rattle.teykonasir.proofs.located_number.Reads as located-number-reads
use Rattle.teykonasir.proofs.teyk_place_at.Goals as goal

pub returns-then-answer-lt1 : goal.returns-then-answer-lt1
returns-then-answer-lt1 c = place_at-short _ _ _ _ c.if-answer-lt1.true

pub returns : goal.returns
returns c = place_at-whole _ _ _ _ c.if-answer-lt1.false _ c.place_at-found.ensures _ _ c.located_code.ensures c.located_number.ensures
