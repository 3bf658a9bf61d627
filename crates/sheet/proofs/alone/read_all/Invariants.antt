use Rattle.std.proofs.Common.{◌-◌, ◌≡◌, length}
use Rattle.sheet.specs.Calls.{Going}
use Rattle.sheet.proofs.alone.read_all.Given as goal

abbrev pub invariant-loop-at : goal.invariant-loop-at
invariant-loop-at l = (length l.row ≡ length l.initial.row) × ((g : Going l.text l.at l.count l.row) × (l.deep ≡ g.deep))

abbrev pub decreases-loop-at : goal.decreases-loop-at
decreases-loop-at l = length l.text - l.at
