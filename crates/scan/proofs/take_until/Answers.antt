use Rattle.std.proofs.Common.{refl, sym, ◌∙◌, true, false, arith}
use Rattle.utf8.proofs.Laws.{seen}
use Rattle.utf8.specs.Laws.{ended}
use Rattle.scan.specs.Until.{until-on, until-at, until_end}
use Rattle.scan.specs.Seek.{seek_step, seek_done}
use Rattle.scan.specs.Runs.{seek-run}
use Rattle.scan.proofs.take_until.Goals as goal

pub loop-code-init : goal.loop-code-init
loop-code-init c = (omega (arith, c.seek_run-to.ensures), seek-run c.args.s.now _ _ c.args.kind c.seek_run-to.ensures)

pub returns-then-stops : goal.returns-then-stops
returns-then-stops c =
    sym (until-at (seek_step (c.args.kind)) seek_done (seen _ _ _ _ (sym c.in-Some.ensures)) {st = false} {st' = true} (sym c.if-stops.true ∙ c.stops.ensures) refl c.loop-code.n refl)
    ∙ c.loop-code.invariant.1

pub overflow_add-at : goal.overflow_add-at
overflow_add-at c = omega (arith, (seen _ _ _ _ (sym c.in-Some.ensures)))

pub overflow_add-n : goal.overflow_add-n
overflow_add-n c = omega (arith, (seen _ _ _ _ (sym c.in-Some.ensures)))

pub loop-code-smaller : goal.loop-code-smaller
loop-code-smaller c = omega (arith, (seen _ _ _ _ (sym c.in-Some.ensures)))

pub loop-code-preserved : goal.loop-code-preserved
loop-code-preserved c = (
  omega (arith, (seen _ _ _ _ (sym c.in-Some.ensures))),
  sym (until-on (seek_step (c.args.kind)) seek_done (seen _ _ _ _ (sym c.in-Some.ensures)) {st = false} {st' = false} (sym c.if-stops.false ∙ c.stops.ensures) refl c.loop-code.n refl)
      ∙ c.loop-code.invariant.1,
)

pub returns-in-None : goal.returns-in-None
returns-in-None c =
    sym (until_end (seek_step c.args.kind) seek_done (ended _ _ (sym c.in-None.ensures)) false _)
    ∙ c.loop-code.invariant.1
