use Rattle.std.proofs.Common.{ℕ, List, ◌≤◌, ◌-◌, ◌+◌, ◌≡◌, length, drop}
use Rattle.utf8.specs.Utf8.{chars}
use Rattle.scan.specs.declared.Com.{Com}
use Rattle.scan.specs.Until.{until}
use Rattle.scan.specs.Readers.{com_step, com_done, comment_end, depth_of}
use Rattle.scan.specs.Depth.{comment_depth, deepest}
use Rattle.scan.proofs.comment_end.Given as goal

-- what the reader knows at a place, n characters after the first
abbrev pub Inv : List ℕ → ℕ → ℕ → ℕ → Com → ℕ → Type 0
Inv s from at n st most =
    (n + from ≤ at)
    × (depth_of st ≤ n + 1)
    × (depth_of st ≤ most)
    × (until com_step com_done st (chars (drop at s)) at n ≡ comment_end (chars (drop from s)) from)
    × (deepest st (chars (drop at s)) most ≡ comment_depth (chars (drop from s)))

abbrev pub invariant-loop-code : goal.invariant-loop-code
invariant-loop-code l = Inv l.s l.from l.at l.n l.st l.most

abbrev pub decreases-loop-code : goal.decreases-loop-code
decreases-loop-code l = length l.s - l.at
