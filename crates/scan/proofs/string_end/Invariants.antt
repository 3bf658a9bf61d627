use Rattle.std.proofs.Common.{◌≤◌, ◌-◌, ◌+◌, ◌≡◌, length, drop}
use Rattle.utf8.specs.Utf8.{chars}
use Rattle.scan.specs.Until.{until}
use Rattle.scan.specs.Readers.{str_step, str_done, string_end}
use Rattle.scan.proofs.string_end.Given as goal

abbrev pub invariant-loop-code : goal.invariant-loop-code
invariant-loop-code l =
    (l.n + l.from ≤ l.at)
    × (until (str_step l.quote) str_done l.st (chars (drop l.at l.s)) l.at l.n ≡ string_end l.quote (chars (drop l.from l.s)) l.from)

abbrev pub decreases-loop-code : goal.decreases-loop-code
decreases-loop-code l = length l.s - l.at
