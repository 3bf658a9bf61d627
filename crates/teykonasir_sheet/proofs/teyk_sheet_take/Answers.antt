use Rattle.std.proofs.Common.{[], arith, ◌∷◌, ap, ◌∙◌}
use Rattle.record.specs.Stores.{sets_over}
use Rattle.numbers.specs.Leaves.{short, whole}
use Rattle.teykonasir_sheet.specs.Calls.{sheet_call, taken_code, taken_place}
use Rattle.teykonasir_sheet.proofs.teyk_sheet_take.Reads as reads
use Rattle.teykonasir_sheet.proofs.teyk_sheet_take.Lts as lts
use Rattle.sheet.proofs.take.Reads as take-reads
use Rattle.teykonasir_sheet.proofs.taken_code.Reads as taken-code-reads
use Rattle.teykonasir_sheet.proofs.taken_place.Reads as taken-place-reads
use Rattle.teykonasir_sheet.proofs.teyk_sheet_take.Goals as goal

-- src/lib.rt:51:9
pub returns-then-answer-lt2 : goal.returns-then-answer-lt2
unfolding sheet_call
returns-then-answer-lt2 c = short 2 _ _ _ _ _ c.if-answer-lt2.true

-- src/lib.rt:42:1
pub returns : goal.returns
unfolding sheet_call
returns c =
    let a = c.args.answer.now in
    let t = c.take-took.ensures in
    let d = c.taken_code-code.ensures ∙ ap taken_code t.0 in
    let p = c.taken_place-place.ensures ∙ ap taken_place t.0 in
    let l = c.if-answer-lt2.false in
    whole 2 _ _ _ _ a (omega (arith, l)) _ _ _ d t.1 (sets_over (c.taken_code-code.result ∷ c.taken_place-place.result ∷ []) a (omega (arith, l)) ∙ rw (d, p))
