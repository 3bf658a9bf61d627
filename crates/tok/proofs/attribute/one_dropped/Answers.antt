use Rattle.std.proofs.Common.{refl, sym, arith}
use Rattle.utf8.proofs.Laws.{seen}
use Rattle.utf8.specs.Laws.{ended}
use Rattle.scan.specs.Far.{after}
use Rattle.reading.specs.Attribute.{dropped}
use Rattle.tok.proofs.attribute.one_dropped.Goals as goal

pub overflow_add-result : goal.overflow_add-result
overflow_add-result c = omega (arith, (seen _ _ _ _ (sym c.in-Some.ensures)))

pub returns-in-Some : goal.returns-in-Some
unfolding after dropped
returns-in-Some c = let h = (seen _ _ _ _ (sym c.in-Some.ensures)) in rw (h.next, ← h.width) (refl, refl)

pub returns-in-None : goal.returns-in-None
unfolding after dropped
returns-in-None c = rw (ended _ _ (sym c.in-None.ensures)).none (refl, refl)
