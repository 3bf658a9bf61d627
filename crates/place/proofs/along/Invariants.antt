use Rattle.std.proofs.Common.{◌-◌, length}
use Rattle.place.proofs.Turns.{Along}
use Rattle.place.proofs.along.Given as goal

-- before each character, so many units more stand before the place
abbrev pub invariant-loop-i : goal.invariant-loop-i
invariant-loop-i l = Along l.text l.start l.column l.i l.left

abbrev pub decreases-loop-i : goal.decreases-loop-i
decreases-loop-i l = length l.text - l.i
