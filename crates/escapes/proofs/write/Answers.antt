use Rattle.std.proofs.Common.{◌≡◌, ◌<◌, sym, ◌∙◌, arith, refl, true, false, length}
use Rattle.escapes.specs.Laws.{turn}
use Rattle.escapes.proofs.Laws.{reach-start, reach_byte, reach-bad, one-part, wrote, rest_wrote, all_wrote}
use Rattle.escapes.proofs.write.Goals as goal

pub loop-i-init : goal.loop-i-init
loop-i-init c = (reach-start _ _, refl)

pub returns-in_default : goal.returns-in_default
returns-in_default c =
    let e = reach-bad _ c.loop-i.invariant.0 c.loop-i-test.true (sym c.read_at.ensures ∙ c.in_default.is) in
    let z : false ≡ true = rw e at c.requires.1 in
    cc

pub bounds-out-n : goal.bounds-out-n
bounds-out-n c =
    let t = turn _ _ _ _ _ c.loop-i-test.true (sym c.read_at.ensures ∙ c.in-Ok.is) in
    omega (arith, one-part _ (reach_byte c.loop-i.invariant.0 t) c.requires.1)

pub overflow_add-i : goal.overflow_add-i
overflow_add-i c =
    let t = turn _ _ _ _ _ c.loop-i-test.true (sym c.read_at.ensures ∙ c.in-Ok.is) in
    omega (arith, t.small)

pub loop-i-smaller : goal.loop-i-smaller
loop-i-smaller c =
    let t = turn _ _ _ _ _ c.loop-i-test.true (sym c.read_at.ensures ∙ c.in-Ok.is) in
    omega (arith, t.moves)

pub loop-i-preserved : goal.loop-i-preserved
loop-i-preserved c =
    let o = c.loop-i in
    let t = turn _ _ _ _ _ c.loop-i-test.true (sym c.read_at.ensures ∙ c.in-Ok.is) in
    let m : o.n < length o.out = omega (arith, one-part _ (reach_byte o.invariant.0 t) c.requires.1) in
    (wrote _ _ _ m (reach_byte o.invariant.0 t), rest_wrote o.n o.out c.args.out.now _ o.invariant.1)

pub returns : goal.returns
returns c = all_wrote _ _ _ c.loop-i.invariant.0 c.loop-i.invariant.1 c.loop-i-test.false
