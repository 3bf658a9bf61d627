use Rattle.std.proofs.Common.{◌≤◌, ◌-◌, ◌+◌, ◌≡◌, length, drop}
use Rattle.utf8.specs.Utf8.{chars}
use Rattle.scan.specs.Depth.{depth_from}
use Rattle.scan.specs.Walk.{walk_from}
use Rattle.code.specs.Code.{code_depth_of, code_end, code_last, code_turn}
use Rattle.code.proofs.code_by.Given as goal

abbrev pub invariant-loop-code : goal.invariant-loop-code
invariant-loop-code l =
    (l.n + l.at ≤ l.p) × (l.b ≤ l.n) × (walk_from (code_turn l.rd) (code_last l.start) 0 (chars (drop l.p l.s)) l.b l.p l.n ≡ code_end l.rd l.start (chars (drop l.at l.s)) l.at)
    × (depth_from (code_turn l.rd) 0 (chars (drop l.p l.s)) l.b l.p l.deep ≡ code_depth_of l.rd (chars (drop l.at l.s)) l.at)

abbrev pub decreases-loop-code : goal.decreases-loop-code
decreases-loop-code l = length l.s - l.p
