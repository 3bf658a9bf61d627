use Rattle.std.proofs.Common.{◌≤◌, ◌-◌, ◌+◌, length}
use Rattle.sheet.proofs.Telling.{Reached}
use Rattle.sheet.proofs.gaps.apart_far.Given as goal

abbrev pub invariant-loop-code : goal.invariant-loop-code
invariant-loop-code l = (l.white + l.comment + l.from ≤ l.at) × Reached l.s l.from l.at l.white l.comment l.deep

abbrev pub decreases-loop-code : goal.decreases-loop-code
decreases-loop-code l = length l.s - l.at
