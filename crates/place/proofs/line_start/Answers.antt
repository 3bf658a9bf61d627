use Rattle.std.proofs.Common.{sym, ◌∙◌, arith}
use Rattle.place.proofs.Turns.{line_here, lined_end, lined_ends, lined_on, lined_plain, lined_start}
use Rattle.place.proofs.line_start.Goals as goal

pub loop-i-init : goal.loop-i-init
loop-i-init c = lined_start _ _ c.requires

pub loop-i-preserved-then-is_plain : goal.loop-i-preserved-then-is_plain
loop-i-preserved-then-is_plain c =
    lined_plain _ _ _ _ c.loop-i.invariant c.loop-i-test.true (sym c.is_plain.ensures ∙ c.if-is_plain.true) c.if-left-eq0.false

pub overflow_add-next : goal.overflow_add-next
overflow_add-next c = omega (arith, line_here _ _ _ _ c.loop-i.invariant c.loop-i-test.true)

pub loop-i-smaller-then-ends : goal.loop-i-smaller-then-ends
loop-i-smaller-then-ends c = omega (arith, line_here _ _ _ _ c.loop-i.invariant c.loop-i-test.true)

pub loop-i-preserved-then-ends : goal.loop-i-preserved-then-ends
loop-i-preserved-then-ends c =
    rw c.width.ensures (lined_ends _ _ _ _ c.loop-i.invariant c.loop-i-test.true (sym c.if-ends.true ∙ c.ends.ensures) c.if-left-eq0.false)

pub loop-i-smaller : goal.loop-i-smaller
loop-i-smaller c = omega (arith, line_here _ _ _ _ c.loop-i.invariant c.loop-i-test.true)

pub loop-i-preserved : goal.loop-i-preserved
loop-i-preserved c =
    rw c.width.ensures (lined_on _ _ _ _ c.loop-i.invariant c.loop-i-test.true (sym c.if-ends.false ∙ c.ends.ensures) c.if-left-eq0.false)

pub returns : goal.returns
returns c = let h = lined_end _ _ _ _ c.loop-i.invariant (omega arith) in (h.within, h.whole, h.left)
