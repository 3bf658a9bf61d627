use Rattle.std.proofs.Common.{sym, ◌∙◌, arith}
use Rattle.place.proofs.Turns.{counted_done, counted-ends-one, counted-inside, counted-one, counted-plain, counted_start, counted-wide, here}
use Rattle.place.proofs.walk.Goals as goal

pub loop-i-init : goal.loop-i-init
loop-i-init c = counted_start _ _ c.requires

pub loop-i-preserved-then-is_plain : goal.loop-i-preserved-then-is_plain
loop-i-preserved-then-is_plain c =
    counted-plain _ _ _ _ _ c.loop-i.invariant (omega arith) (sym c.is_plain.ensures ∙ c.if-is_plain.true) (omega arith)

pub loop-i-preserved-then-ended : goal.loop-i-preserved-then-ended
loop-i-preserved-then-ended c =
    counted-ends-one _ _ _ _ _ c.loop-i.invariant (omega arith) (omega arith) (omega arith) (sym c.if-ended.true ∙ c.ends-ended.ensures)

pub loop-i-preserved-else-ended : goal.loop-i-preserved-else-ended
loop-i-preserved-else-ended c =
    counted-one _ _ _ _ _ c.loop-i.invariant (omega arith) (omega arith) (omega arith) (sym c.if-ended.false ∙ c.ends-ended.ensures)

pub overflow_add-next : goal.overflow_add-next
overflow_add-next c = omega (arith, here _ _ _ _ _ c.loop-i.invariant (omega arith))

pub returns-then-at-next : goal.returns-then-at-next
returns-then-at-next c = counted-inside _ _ _ _ _ c.loop-i.invariant (omega arith) (omega arith)

pub overflow_add-column-else-a-lt128 : goal.overflow_add-column-else-a-lt128
overflow_add-column-else-a-lt128 c = omega (arith, here _ _ _ _ _ c.loop-i.invariant (omega arith))

pub loop-i-smaller : goal.loop-i-smaller
loop-i-smaller c = omega (arith, here _ _ _ _ _ c.loop-i.invariant (omega arith))

pub loop-i-preserved : goal.loop-i-preserved
loop-i-preserved c =
    rw (c.width-bytes.ensures, c.units-n.ensures) (counted-wide _ _ _ _ _ c.loop-i.invariant (omega arith) (omega arith) (omega arith))

pub returns : goal.returns
returns c = let b = c.bound-end.ensures in counted_done _ _ _ _ _ c.loop-i.invariant _ (omega arith) b.1 b.2
