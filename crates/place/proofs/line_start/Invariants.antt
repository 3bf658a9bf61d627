use Rattle.std.proofs.Common.{◌-◌, length}
use Rattle.place.proofs.Turns.{Lined}
use Rattle.place.proofs.line_start.Given as goal

-- before each character, so many lines more have to end
abbrev pub invariant-loop-i : goal.invariant-loop-i
invariant-loop-i l = Lined l.text l.line l.i l.left

abbrev pub decreases-loop-i : goal.decreases-loop-i
decreases-loop-i l = length l.text - l.i
