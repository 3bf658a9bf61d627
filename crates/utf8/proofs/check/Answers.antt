use Rattle.std.proofs.Common.{sym, ◌∙◌, arith}
use Rattle.utf8.proofs.Laws.{seen}
use Rattle.utf8.specs.Laws.{reach_step, reach-end, ended}
use Rattle.utf8.specs.Picks.{picks}
use Rattle.utf8.proofs.check.Goals as goal

pub overflow_add-at-in-Some-char_at : goal.overflow_add-at-in-Some-char_at
overflow_add-at-in-Some-char_at c = omega (arith, (seen _ _ _ _ (sym c.in-Some-char_at.ensures)))

pub loop-w-smaller : goal.loop-w-smaller
loop-w-smaller c = omega (arith, (seen _ _ _ _ (sym c.in-Some-char_at.ensures)))

pub loop-w-preserved : goal.loop-w-preserved
loop-w-preserved c = (omega (arith, (seen _ _ _ _ (sym c.in-Some-char_at.ensures))), sym (reach_step _ _ _ _ (seen _ _ _ _ (sym c.in-Some-char_at.ensures))) ∙ c.loop-w.invariant.1)

pub returns-then-at-s : goal.returns-then-at-s
returns-then-at-s c = rw (← ((sym (reach-end _ _ (ended _ _ (sym c.in-None.ensures))) ∙ c.loop-w.invariant.1))) (search picks)

pub returns-in-None : goal.returns-in-None
returns-in-None c = rw (← ((sym (reach-end _ _ (ended _ _ (sym c.in-None.ensures))) ∙ c.loop-w.invariant.1))) (search picks)
