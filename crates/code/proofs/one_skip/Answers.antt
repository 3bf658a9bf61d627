use Rattle.std.proofs.Common.{sym, arith}
use Rattle.utf8.proofs.Laws.{seen}
use Rattle.utf8.specs.Laws.{ended}
use Rattle.utf8.specs.Picks.{picks}
use Rattle.code.specs.Code.{one_skip}
use Rattle.code.specs.Laws.{one_passed}
use Rattle.code.proofs.one_skip.Goals as goal

pub overflow_add-at : goal.overflow_add-at
overflow_add-at c = omega (arith, (seen _ _ _ _ (sym c.in-Some.ensures)))

pub returns-then-code-eq-QUOTE : goal.returns-then-code-eq-QUOTE
returns-then-code-eq-QUOTE c = let h = (seen _ _ _ _ (sym c.in-Some.ensures)) in rw (h.next, one_passed _ _ _ _ _, ← h.width) (search picks)

pub returns-else-code-eq-QUOTE : goal.returns-else-code-eq-QUOTE
returns-else-code-eq-QUOTE c = let h = (seen _ _ _ _ (sym c.in-Some.ensures)) in rw (h.next, one_passed _ _ _ _ _, ← h.width) (search picks)

pub returns-in-None : goal.returns-in-None
unfolding one_skip
returns-in-None c = let e = ended _ _ (sym c.in-None.ensures) in rw e.none (rw e.none at c.quote_end-in-None.ensures)
