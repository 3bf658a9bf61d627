use Rattle.std.proofs.Common.{◌≤◌, ◌-◌, ◌≡◌, length, drop}
use Rattle.utf8.specs.Utf8.{chars, reach}
use Rattle.utf8.proofs.check.Given as goal

abbrev pub invariant-loop-w : goal.invariant-loop-w
invariant-loop-w l = (l.at ≤ length l.s) × (reach (chars (drop l.at l.s)) l.at ≡ reach (chars l.s) 0)

abbrev pub decreases-loop-w : goal.decreases-loop-w
decreases-loop-w l = length l.s - l.at
