use Rattle.std.proofs.Common.{arith}
use Rattle.sheet.specs.Adds.{enter}
use Rattle.sheet.specs.Laws.{entered-fits, enter-fits}
use Rattle.sheet.proofs.alone.token_onto.Goals as goal

pub enter-requires-2 : goal.enter-requires-2
enter-requires-2 c =
    let p = c.requires in
    let h = entered-fits _ 1 c.enter.ensures p.1 p.0 in
    enter-fits 54 _ h.0 (omega (arith, h.1)) (omega (arith, p.3))

pub enter-requires-3 : goal.enter-requires-3
enter-requires-3 c =
    let p = c.requires in
    let h = entered-fits _ 1 c.enter.ensures p.1 p.0 in
    let i = entered-fits 54 _ c.enter-2.ensures h.0 h.1 in
    enter-fits 57 _ i.0 (omega (arith, i.1)) (omega (arith, p.3, p.4))

pub enter-requires-4 : goal.enter-requires-4
enter-requires-4 c =
    let p = c.requires in
    let h = entered-fits _ 1 c.enter.ensures p.1 p.0 in
    let i = entered-fits 54 _ c.enter-2.ensures h.0 h.1 in
    let j = entered-fits 57 _ c.enter-3.ensures i.0 i.1 in
    enter-fits 59 _ j.0 (omega (arith, j.1)) (omega (arith, p.3, p.4, p.5))
