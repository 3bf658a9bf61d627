use Rattle.std.proofs.Common.{◌∙◌, sym, arith}
use Rattle.scan.specs.Runs.{run_past, run-stop, run_on}
use Rattle.scan.proofs.runs.run.Goals as goal

pub returns-then-stops : goal.returns-then-stops
returns-then-stops g c =
    omega (arith, c.loop-at.invariant.1, run-stop (g.S.Stop.stops c.args.stop) c.args.s.now c.loop-at.at (omega arith) (sym c.stops.ensures ∙ c.if-stops.true))

pub loop-at-preserved : goal.loop-at-preserved
loop-at-preserved g c =
    (omega arith, omega (arith, c.loop-at.invariant.1, run_on (g.S.Stop.stops c.args.stop) c.args.s.now c.loop-at.at (omega arith) (sym c.stops.ensures ∙ c.if-stops.false)))

pub returns : goal.returns
returns g c = omega (arith, c.loop-at.invariant.1, run_past (g.S.Stop.stops c.args.stop) c.args.s.now c.loop-at.at (omega arith))
