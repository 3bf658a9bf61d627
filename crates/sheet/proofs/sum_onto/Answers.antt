use Rattle.std.proofs.Common.{ℕ, List, ap, sym, ◌∙◌, arith, get_or}
use Rattle.sheet.specs.Laws.{plus_none, plus-take}
use Rattle.sheet.proofs.sum_onto.Goals as goal

pub loop-i-init : goal.loop-i-init
loop-i-init c = sym (plus_none c.args.sheet.now)

pub overflow_add-sheet : goal.overflow_add-sheet
overflow_add-sheet c =
    let a = c.args in
    let l = c.loop-i in
    let h = plus-take a.sheet.now a.row.now l.i (omega (arith, c.requires.0)) (omega arith) in
    let e = ap (λ (z : List ℕ). get_or z l.i 0) l.invariant ∙ h.0 in
    omega (arith, e, c.requires.1 l.i (omega arith))

pub loop-i-preserved : goal.loop-i-preserved
loop-i-preserved c =
    let a = c.args in
    let l = c.loop-i in
    let h = plus-take a.sheet.now a.row.now l.i (omega (arith, c.requires.0)) (omega arith) in
    let e = ap (λ (z : List ℕ). get_or z l.i 0) l.invariant ∙ h.0 in
    rw (e, l.invariant) h.1
