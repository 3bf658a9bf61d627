use Rattle.std.proofs.Common.{◌≤◌, ◌-◌, ◌+◌, ◌≡◌, length, drop}
use Rattle.utf8.specs.Utf8.{chars}
use Rattle.scan.specs.Until.{until}
use Rattle.scan.specs.Readers.{reg_step, reg_done, regex_end}
use Rattle.scan.proofs.regex_end.Given as goal

abbrev pub invariant-loop-code : goal.invariant-loop-code
invariant-loop-code l =
    (l.n + l.from ≤ l.at)
    × (l.st ≤ l.n)
    × (until reg_step (reg_done l.hashes) l.st (chars (drop l.at l.s)) l.at l.n ≡ regex_end l.hashes (chars (drop l.from l.s)) l.from)

abbrev pub decreases-loop-code : goal.decreases-loop-code
decreases-loop-code l = length l.s - l.at
