-- The tokens that are left make the row that all of them make.
use Rattle.std.proofs.Common.{◌≡◌, length}
use Rattle.summed.specs.Summed.{tokens_onto}
use Rattle.summed.proofs.tokens_onto.Given as goal

abbrev pub invariant-loop-left : goal.invariant-loop-left
invariant-loop-left l = tokens_onto l.text l.shift l.left l.row ≡ tokens_onto l.text l.shift l.initial.left l.initial.row

abbrev pub decreases-loop-left : goal.decreases-loop-left
decreases-loop-left l = length l.left
