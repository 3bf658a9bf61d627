use Rattle.std.proofs.Common.{◌≡◌, ℕ, List, ◌+◌, ◌-◌, ◌≤◌, drop, length}
use Rattle.utf8.specs.Utf8.{chars}
use Rattle.scan.specs.Depth.{depth_from}
use Rattle.scan.specs.Walk.{walk_from}
use Rattle.reading.specs.Gaps.{gap, gap_depth_of, gap_last, gap_turn}
use Rattle.tok.proofs.gaps.gap_far.Given as goal

-- what the walk knows at a place, n characters after the first, with comments as deep as deep
abbrev pub Inv : List ℕ → ℕ → ℕ → ℕ → ℕ → Type 0
Inv s from at n deep =
    (n + from ≤ at) × (walk_from gap_turn gap_last 0 (chars (drop at s)) 0 at n ≡ gap (chars (drop from s)) from)
    × (depth_from gap_turn 0 (chars (drop at s)) 0 at deep ≡ gap_depth_of (chars (drop from s)) from)

abbrev pub invariant-loop-code : goal.invariant-loop-code
invariant-loop-code l = Inv l.s l.from l.at l.n l.deep

abbrev pub decreases-loop-code : goal.decreases-loop-code
decreases-loop-code l = length l.s - l.at
