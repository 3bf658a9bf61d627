use Rattle.std.proofs.Common.{ℕ, ◌-◌}
use Rattle.run.proofs.Turns.{Inv}
use Rattle.run.proofs.run.Given as goal

-- of the turns to come at most k
abbrev pub invariant-loop-p : goal.invariant-loop-p
invariant-loop-p l = (k : ℕ) × Inv l.text l.shift l.limit l.initial.list l.fn.from k l.p l.list

abbrev pub decreases-loop-p : goal.decreases-loop-p
decreases-loop-p l = l.room - l.p.ran.stored
