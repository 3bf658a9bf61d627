use Rattle.std.proofs.Common.{◌-◌, length}
use Rattle.place.proofs.Turns.{Counted}
use Rattle.place.proofs.walk.Given as goal

-- before each character the line and the column are its own
abbrev pub invariant-loop-i : goal.invariant-loop-i
invariant-loop-i l = Counted l.text l.at l.i l.line l.column

abbrev pub decreases-loop-i : goal.decreases-loop-i
decreases-loop-i l = length l.text - l.i
