use Rattle.std.proofs.Common.{ap, ◌∙◌, arith}
use Rattle.utf8.specs.Picks.{picks}
use Rattle.std.specs.Prelude.{◌+◌, true, false}
use Rattle.tally.specs.declared.tally.Tally.{Tally}
use Rattle.tally.specs.Tallies.{up_to, with_range}
use Rattle.tally.specs.Laws.{sane_up}
use Rattle.tally.proofs.tally.with_range.Goals as goal
use Rattle.tally.proofs.tally.with_range.Goals.{then-first-t-via-then-first-t, then-first-t-via-else-first-t+then-last-first, then-first-t-via-else-first-t+else-last-first+then-last-ge-END}

pub returns-then-first-t : goal.returns-then-first-t
unfolding with_range
returns-then-first-t c =
    elim c.then-first-t.branch [
      | then-first-t-via-then-first-t w ↦ search picks depth 6
      | then-first-t-via-else-first-t+then-last-first w ↦ search picks depth 6
      | then-first-t-via-else-first-t+else-last-first+then-last-ge-END w ↦ search picks depth 6
    ]

pub further-requires-2 : goal.further-requires-2
further-requires-2 c = let a = c.args in (rw c.further.ensures (sane_up a.p false a.first a.t (omega arith) (omega arith) c.requires), omega arith)

pub returns : goal.returns
unfolding with_range
returns c =
    let a = c.args in
    let h = c.further-2.ensures ∙ ap (λ (t : Tally). up_to a.p true (a.last + 1) t) c.further.ensures in
    search picks depth 6
