use Rattle.std.proofs.Common.{◌+◌, ap, sym, ◌∙◌, arith, drop}
use Rattle.utf8.specs.Utf8.{chars}
use Rattle.utf8.proofs.Laws.{seen}
use Rattle.utf8.specs.Laws.{ended}
use Rattle.scan.specs.declared.Sought.TheVariants.{Quote}
use Rattle.scan.specs.Far.{lands, fits}
use Rattle.scan.specs.Passes.{quote_past, seek-none}
use Rattle.code.specs.Code.{esc_skip}
use Rattle.code.specs.Laws.{esc_passed_lem, esc_passed}
use Rattle.code.proofs.esc_skip.Goals as goal

pub overflow_add-at : goal.overflow_add-at
overflow_add-at c = omega (arith, (seen _ _ _ _ (sym c.in-Some.ensures)))

pub overflow_add-place : goal.overflow_add-place
overflow_add-place c = omega (arith, ((lands _ _ _ _ (quote_past _ _ _ _ (sym c.in-Ok.ensures)))).inside (omega arith))

pub overflow_add-passed : goal.overflow_add-passed
overflow_add-passed c = let l = (lands _ _ _ _ (quote_past _ _ _ _ (sym c.in-Ok.ensures))) in omega (arith, l.inside (omega arith), l.gone)

pub overflow_add-passed-in-Err : goal.overflow_add-passed-in-Err
overflow_add-passed-in-Err c = omega (arith, ((lands _ _ _ _ (seek-none _ _ _ _ Quote (sym c.in-Err.ensures)))).within, fits c.args.s.now (c.args.at + c.in-Some.width))

pub returns-in-Ok : goal.returns-in-Ok
returns-in-Ok c = let h = (seen _ _ _ _ (sym c.in-Some.ensures)) in let l = (lands _ _ _ _ (quote_past _ _ _ _ (sym c.in-Ok.ensures))) in rw (h.next, esc_passed_lem _ _ _ _ _, ← h.width) ((rw (← l.rest) at c.quote_end.ensures) ∙ ap (esc_passed _ _ _) (sym c.in-Ok.is ∙ c.take_until.ensures))

pub returns-in-Err : goal.returns-in-Err
returns-in-Err c = let h = (seen _ _ _ _ (sym c.in-Some.ensures)) in rw (h.next, esc_passed_lem _ _ _ _ _, ← h.width) (c.lost.ensures ∙ ap (esc_passed _ _ (chars (drop (c.args.at + c.in-Some.width) c.args.s.now))) (sym c.in-Err.is ∙ c.take_until.ensures))

pub returns-in-None : goal.returns-in-None
unfolding esc_skip
returns-in-None c = rw (ended _ _ (sym c.in-None.ensures)).none c.lost-in-None.ensures
