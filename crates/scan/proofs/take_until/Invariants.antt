use Rattle.std.proofs.Common.{◌≤◌, ◌-◌, ◌+◌, ◌≡◌, false, length, drop}
use Rattle.utf8.specs.Utf8.{chars}
use Rattle.scan.specs.Until.{until}
use Rattle.scan.specs.Seek.{seek, seek_step, seek_done}
use Rattle.scan.proofs.take_until.Given as goal

abbrev pub invariant-loop-code : goal.invariant-loop-code
invariant-loop-code l =
    (l.n + l.from ≤ l.at)
    × (until (seek_step l.kind) seek_done false (chars (drop l.at l.s)) l.at l.n ≡ seek l.kind (chars (drop l.from l.s)) l.from)

abbrev pub decreases-loop-code : goal.decreases-loop-code
decreases-loop-code l = length l.s - l.at
