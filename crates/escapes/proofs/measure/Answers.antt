use Rattle.std.proofs.Common.{rules, [], sym, ◌∙◌, arith}
use Rattle.escapes.specs.Laws.{turn}
use Rattle.escapes.proofs.Laws.{reach-start, reach-end, reach_byte, reach-bad}
use Rattle.escapes.proofs.measure.Goals as goal

pub loop-i-init : goal.loop-i-init
loop-i-init c = ([], reach-start _ _)

pub returns-in_err-width : goal.returns-in_err-width
returns-in_err-width c =
    let e = reach-bad _ c.loop-i.invariant.1 c.loop-i-test.true (sym c.read_at.ensures ∙ c.in_err-width.was) in
    rw e (search rules)

pub overflow_add-i : goal.overflow_add-i
overflow_add-i c =
    let t = turn _ _ _ _ _ c.loop-i-test.true (sym c.read_at.ensures ∙ c.in_ok-width.was) in
    omega (arith, t.small)

pub loop-i-smaller : goal.loop-i-smaller
loop-i-smaller c =
    let t = turn _ _ _ _ _ c.loop-i-test.true (sym c.read_at.ensures ∙ c.in_ok-width.was) in
    omega (arith, t.moves)

pub loop-i-preserved : goal.loop-i-preserved
loop-i-preserved c =
    let t = turn _ _ _ _ _ c.loop-i-test.true (sym c.read_at.ensures ∙ c.in_ok-width.was) in
    (_, reach_byte c.loop-i.invariant.1 t)

pub returns : goal.returns
returns c = let r = c.loop-i.invariant.1 in rw (reach-end r c.loop-i-test.false, r.count)
