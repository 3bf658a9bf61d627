use Rattle.std.proofs.Common.{◌-◌, ◌/◌, ◌≡◌, length}
use Rattle.run.specs.Numbers.{size_of}
use Rattle.run.specs.Pending.{running}
use Rattle.run.proofs.Groups.{Asking}
use Rattle.run.proofs.store_on.Given as goal

abbrev pub invariant-loop-g : goal.invariant-loop-g
invariant-loop-g l =
    (length l.records ≡ length l.initial.records) × (l.size ≡ size_of l.g) × (l.room ≡ length l.initial.records / size_of l.g) × Asking l.g l.text l.shift l.limit l.room (running l.rd l.from l.counted) l.initial.records l.n (running l.rd l.at l.count) l.records

abbrev pub decreases-loop-g : goal.decreases-loop-g
decreases-loop-g l = l.room - l.n
