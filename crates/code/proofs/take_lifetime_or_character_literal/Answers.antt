use Rattle.std.proofs.Common.{sym, arith}
use Rattle.utf8.proofs.Laws.{seen}
use Rattle.utf8.specs.Laws.{ended}
use Rattle.utf8.specs.Picks.{picks}
use Rattle.code.specs.Code.{quote_skip}
use Rattle.code.proofs.take_lifetime_or_character_literal.Goals as goal

pub overflow_add-at : goal.overflow_add-at
overflow_add-at c = omega (arith, (seen _ _ _ _ (sym c.in-Some.ensures)))

pub returns-then-code-eq-BACKSLASH : goal.returns-then-code-eq-BACKSLASH
unfolding quote_skip
returns-then-code-eq-BACKSLASH c = let h = (seen _ _ _ _ (sym c.in-Some.ensures)) in rw (h.next, ← h.width) (search picks)

pub overflow_add-at-in-Some : goal.overflow_add-at-in-Some
overflow_add-at-in-Some c = omega (arith, (seen _ _ _ _ (sym c.in-Some.ensures)))

pub returns-else-code-eq-BACKSLASH : goal.returns-else-code-eq-BACKSLASH
unfolding quote_skip
returns-else-code-eq-BACKSLASH c = let h = (seen _ _ _ _ (sym c.in-Some.ensures)) in rw (h.next, ← h.width) (search picks)

pub returns-in-None : goal.returns-in-None
unfolding quote_skip
returns-in-None c = rw (ended _ _ (sym c.in-None.ensures)).none c.lost.ensures
