-- The lines that are left make the tally that all of them make; and each is no shorter than a byte.
use Rattle.std.proofs.Common.{◌≡◌, ◌≤◌, ◌-◌, length}
use Rattle.tally.specs.Tallies.{lines_from, of_lines}
use Rattle.tally.specs.Laws.{Sane}
use Rattle.tally.proofs.tally.tally_of.Given as goal

abbrev pub invariant-loop-at : goal.invariant-loop-at
invariant-loop-at l =
    record {
      sane : Sane l.t;
      few : l.n ≤ l.at;
      on : lines_from (length l.s - l.n) l.s l.p l.at l.n l.t ≡ of_lines l.s l.p;
    }

abbrev pub decreases-loop-at : goal.decreases-loop-at
decreases-loop-at l = length l.s - l.at
