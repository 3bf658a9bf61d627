use Rattle.std.proofs.Common.{◌≡◌, ◌+◌, ◌-◌, ◌≤◌, drop, length}
use Rattle.scan.specs.Runs.{run}
use Rattle.scan.proofs.runs.run.Given as goal

abbrev pub invariant-loop-at : goal.invariant-loop-at
invariant-loop-at g l = (l.from ≤ l.at) × (l.at + run (g.S.Stop.stops l.fn.stop) (drop l.at l.s) ≡ l.from + run (g.S.Stop.stops l.fn.stop) (drop l.from l.s))

abbrev pub decreases-loop-at : goal.decreases-loop-at
decreases-loop-at g l = length l.s - l.at
