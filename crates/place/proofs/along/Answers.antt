use Rattle.std.proofs.Common.{refl, arith}
use Rattle.place.proofs.Turns.{along-end, along-ends, along_here, along-inside, along-on}
use Rattle.place.proofs.along.Goals as goal

pub returns-then-a-eq10 : goal.returns-then-a-eq10
returns-then-a-eq10 c = along-ends _ _ _ _ _ c.loop-i.invariant c.loop-i-test.true (rw c.if-a-eq10.true refl)

pub returns-then-a-eq13 : goal.returns-then-a-eq13
returns-then-a-eq13 c = along-ends _ _ _ _ _ c.loop-i.invariant c.loop-i-test.true (rw c.if-a-eq13.true refl)

pub returns-then-left-n : goal.returns-then-left-n
returns-then-left-n c =
    along-inside _ _ _ _ _ c.loop-i.invariant c.loop-i-test.true c.if-a-eq10.false c.if-a-eq13.false (omega arith)

pub overflow_add-i : goal.overflow_add-i
overflow_add-i c = omega (arith, along_here _ _ _ _ _ c.loop-i.invariant c.loop-i-test.true)

pub loop-i-smaller : goal.loop-i-smaller
loop-i-smaller c = omega (arith, along_here _ _ _ _ _ c.loop-i.invariant c.loop-i-test.true)

pub loop-i-preserved : goal.loop-i-preserved
loop-i-preserved c =
    rw (c.width-i.ensures, c.units-n.ensures) (along-on _ _ _ _ _ c.loop-i.invariant c.loop-i-test.true c.if-a-eq10.false c.if-a-eq13.false (omega arith))

pub returns : goal.returns
returns c = along-end _ _ _ _ _ c.loop-i.invariant (omega arith)
