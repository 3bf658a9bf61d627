use Rattle.std.proofs.Common.{ℕ, sym, ap, ◌∙◌, arith}
use Rattle.utf8.proofs.Laws.{seen}
use Rattle.utf8.specs.Laws.{ended}
use Rattle.scan.specs.Until.{until-on, until-at, until_end}
use Rattle.scan.specs.Readers.{reg_step, reg_done}
use Rattle.scan.specs.Steps.{reg_less}
use Rattle.scan.specs.Runs.{regex_run}
use Rattle.scan.proofs.regex_end.Goals as goal

pub loop-code-init : goal.loop-code-init
loop-code-init c = (omega (arith, c.plain_run-to.ensures), omega arith, regex_run _ _ _ _ c.plain_run-to.ensures)

pub reg_step-st-requires : goal.reg_step-st-requires
reg_step-st-requires c = omega (arith, (seen _ _ _ _ (sym c.in-Some.ensures)))

pub returns-then-reg_done : goal.returns-then-reg_done
returns-then-reg_done c =
    sym (until-at reg_step _ (seen _ _ _ _ (sym c.in-Some.ensures)) c.reg_step-st.ensures c.reg_done.ensures _ c.if-reg_done.true)
    ∙ c.loop-code.invariant.2

pub overflow_add-at : goal.overflow_add-at
overflow_add-at c = omega (arith, (seen _ _ _ _ (sym c.in-Some.ensures)))

pub overflow_add-n : goal.overflow_add-n
overflow_add-n c = omega (arith, (seen _ _ _ _ (sym c.in-Some.ensures)))

pub loop-code-smaller : goal.loop-code-smaller
loop-code-smaller c = omega (arith, (seen _ _ _ _ (sym c.in-Some.ensures)))

pub loop-code-preserved : goal.loop-code-preserved
loop-code-preserved c = (
  omega (arith, (seen _ _ _ _ (sym c.in-Some.ensures))),
  omega (arith, reg_less c.loop-code.st c.in-Some.code, ap (λ (x : ℕ). x) c.reg_step-st.ensures),
  sym (until-on reg_step _ (seen _ _ _ _ (sym c.in-Some.ensures)) c.reg_step-st.ensures c.reg_done.ensures _ c.if-reg_done.false)
      ∙ c.loop-code.invariant.2,
)

pub returns-in-None : goal.returns-in-None
returns-in-None c =
    sym (until_end reg_step _ (ended _ _ (sym c.in-None.ensures)) _ _)
    ∙ c.loop-code.invariant.2
