use Rattle.std.proofs.Common.{◌≡◌, ℕ, List, ◌+◌, ◌-◌, ◌≤◌, drop, length}
use Rattle.utf8.specs.Utf8.{chars}
use Rattle.scan.specs.Walk.{walk, walk_from}
use Rattle.reading.specs.Attribute.{attribute_last, attribute_turn}
use Rattle.tok.proofs.attribute.body_end.Given as goal

-- what the walk knows at a place, n characters after the first, with b brackets open
abbrev pub Inv : List ℕ → ℕ → ℕ → ℕ → ℕ → Type 0
Inv s from at n b =
    (n + from ≤ at)
    × (b ≤ n + 1)
    × (walk_from attribute_turn attribute_last 0 (chars (drop at s)) b at n ≡ walk attribute_turn attribute_last 1 (chars (drop from s)) from)

abbrev pub invariant-loop-code : goal.invariant-loop-code
invariant-loop-code l = Inv l.s l.from l.at l.n l.b

abbrev pub decreases-loop-code : goal.decreases-loop-code
decreases-loop-code l = length l.s - l.at
