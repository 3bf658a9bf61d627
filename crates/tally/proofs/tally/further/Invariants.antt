-- The code points that are left make the tally that they would have made at the start.
use Rattle.std.proofs.Common.{◌≡◌}
use Rattle.tally.specs.Tallies.{up_to}
use Rattle.tally.specs.Laws.{Sane}
use Rattle.tally.proofs.tally.further.Given as goal

abbrev pub invariant-loop : goal.invariant-loop
invariant-loop l =
    record {
      sane : Sane l.u;
      next : l.u.next ≡ l.counter;
      on : up_to l.p l.told l.to l.u ≡ up_to l.p l.told l.to l.initial.u;
    }
