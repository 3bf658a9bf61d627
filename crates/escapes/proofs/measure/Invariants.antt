use Rattle.std.proofs.Common.{◌-◌, List, ℕ, length}
use Rattle.escapes.proofs.Laws.{Reached}
use Rattle.escapes.proofs.measure.Given as goal

-- the bytes read so far, and what is read from here on, are the expansion
abbrev pub invariant-loop-i : goal.invariant-loop-i
invariant-loop-i l = (acc : List ℕ) × Reached l.s l.idx0 l.i l.n acc

abbrev pub decreases-loop-i : goal.decreases-loop-i
decreases-loop-i l = length l.s - l.i
