use Rattle.std.proofs.Common.{arith, ap, refl, sym, ◌∙◌}
use Rattle.sheet.specs.Laws.{enter-fits, entered-fits, sheet_each}
use Rattle.sheet.specs.Sheet.{taken_as}
use Rattle.sheet.specs.Takes.{never_running, tallied_adds, tally-fits, texts-fit, whole-adds, whole_onto}
use Rattle.sheet.proofs.add.Goals as goal

pub enter-requires-in-Ended : goal.enter-requires-in-Ended
enter-requires-in-Ended c =
    let h = c.read_all-read.ensures in
    let i = entered-fits 58 _ c.enter.ensures h.3 h.4 in
    enter-fits 61 _ i.0 (omega (arith, i.1)) (omega (arith, h.5, h.7))

pub enter-requires-in-Ended-2 : goal.enter-requires-in-Ended-2
enter-requires-in-Ended-2 c =
    let h = c.read_all-read.ensures in
    let i = entered-fits 58 _ c.enter.ensures h.3 h.4 in
    let j = entered-fits 61 _ c.enter-in-Ended.ensures i.0 i.1 in
    enter-fits 60 1 j.0 (omega (arith, j.1)) (omega (arith, h.5, h.7))

pub sum_onto-requires : goal.sum_onto-requires
sum_onto-requires c =
    let h = c.read_all-read.ensures in
    let i = entered-fits 58 _ c.enter.ensures h.3 h.4 in
    let j = entered-fits 61 _ c.enter-in-Ended.ensures i.0 i.1 in
    let k = entered-fits 60 1 c.enter-in-Ended-2.ensures j.0 j.1 in
    let a = c.args in
    let p = c.requires in
    (omega (arith, k.1, p.1), λ n l. omega (arith, k.0.is n, sheet_each a.sheet.now n p.3 p.1 (omega (arith, l, k.1)), p.2, h.5, h.7))

pub enter-requires-in-Refused : goal.enter-requires-in-Refused
enter-requires-in-Refused c = let p = c.requires in tally-fits c.args.sheet.now p.1 p.2 p.3 c.in-Refused.r _ c.code_number.ensures

pub enter-requires-in-Refused-2 : goal.enter-requires-in-Refused-2
enter-requires-in-Refused-2 c = let p = c.requires in texts-fit c.args.sheet.now p.1 p.2 p.3 c.in-Refused.r c.code_number.result _ c.enter-in-Refused.ensures

pub returns-in-Ended : goal.returns-in-Ended
returns-in-Ended c =
    let h = c.read_all-read.ensures in
    let q = c.in-Ended.is in
    let a = c.args in
    let w = whole-adds a.text.now _ _ _ _ _ _ (sym h.0 ∙ q) (h.2 q) h.1 (h.6 q) c.enter.ensures c.enter-in-Ended.ensures c.enter-in-Ended-2.ensures in
    (ap taken_as (sym q ∙ h.0), whole_onto a.text.now a.sheet.now _ _ _ _ w c.sum_onto.ensures c.greater-deep.ensures refl)

pub returns-in-Refused : goal.returns-in-Refused
returns-in-Refused c =
    let h = c.read_all-read.ensures in
    let q = c.in-Refused.is in
    let a = c.args in
    let p = c.requires in
    (ap taken_as (sym q ∙ h.0), tallied_adds a.sheet.now p.1 p.2 p.3 _ a.text.now c.code_number.result _ _ (sym h.0 ∙ q) c.code_number.ensures c.enter-in-Refused.ensures c.enter-in-Refused-2.ensures)

pub returns-in-Running : goal.returns-in-Running
returns-in-Running c = absurd (never_running c.args.text.now (sym c.read_all-read.ensures.0 ∙ c.in-Running.is))
