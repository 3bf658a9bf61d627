-- Before the place nothing differs.
use Rattle.std.proofs.Common.{map}
use Rattle.recorded.specs.Same.{Walked}
use Rattle.recorded.proofs.first_difference.Given as goal

abbrev pub invariant-loop-i : goal.invariant-loop-i
invariant-loop-i g l = Walked l.first l.i l.recorded (map g.T.Number.value l.answered)
