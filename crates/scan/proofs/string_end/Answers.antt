use Rattle.std.proofs.Common.{sym, ◌∙◌, arith}
use Rattle.utf8.proofs.Laws.{seen}
use Rattle.utf8.specs.Laws.{ended}
use Rattle.scan.specs.Until.{until-on, until-at, until_end}
use Rattle.scan.specs.Readers.{str_done}
use Rattle.scan.specs.Runs.{string_run}
use Rattle.scan.proofs.string_end.Goals as goal

pub loop-code-init : goal.loop-code-init
loop-code-init c = (omega (arith, c.plain_run-to.ensures), string_run _ _ _ _ c.plain_run-to.ensures)

pub returns-then-str_done : goal.returns-then-str_done
returns-then-str_done c =
    sym (until-at _ str_done (seen _ _ _ _ (sym c.in-Some.ensures)) c.str_step-st.ensures c.str_done.ensures _ c.if-str_done.true)
    ∙ c.loop-code.invariant.1

pub overflow_add-at : goal.overflow_add-at
overflow_add-at c = omega (arith, (seen _ _ _ _ (sym c.in-Some.ensures)))

pub overflow_add-n : goal.overflow_add-n
overflow_add-n c = omega (arith, (seen _ _ _ _ (sym c.in-Some.ensures)))

pub loop-code-smaller : goal.loop-code-smaller
loop-code-smaller c = omega (arith, (seen _ _ _ _ (sym c.in-Some.ensures)))

pub loop-code-preserved : goal.loop-code-preserved
loop-code-preserved c = (
  omega (arith, (seen _ _ _ _ (sym c.in-Some.ensures))),
  sym (until-on _ str_done (seen _ _ _ _ (sym c.in-Some.ensures)) c.str_step-st.ensures c.str_done.ensures _ c.if-str_done.false)
      ∙ c.loop-code.invariant.1,
)

pub returns-in-None : goal.returns-in-None
returns-in-None c =
    sym (until_end _ str_done (ended _ _ (sym c.in-None.ensures)) _ _)
    ∙ c.loop-code.invariant.1
