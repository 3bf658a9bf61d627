use Rattle.std.proofs.Common.{◌≡◌, ◌-◌, length, take, drop}
use Rattle.escapes.proofs.Laws.{Reached}
use Rattle.escapes.proofs.write.Given as goal

-- what is written so far, and what is read from here on, are the expansion; beyond it the buffer is as it was
abbrev pub invariant-loop-i : goal.invariant-loop-i
invariant-loop-i l = Reached l.s l.idx0 l.i l.n (take l.n l.out) × (drop l.n l.out ≡ drop l.n l.initial.out)

abbrev pub decreases-loop-i : goal.decreases-loop-i
decreases-loop-i l = length l.s - l.i
