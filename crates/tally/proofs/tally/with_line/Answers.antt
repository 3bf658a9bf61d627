use Rattle.std.proofs.Common.{sym, ◌∙◌}
use Rattle.tally.specs.Tallies.{with_line}
use Rattle.tally.proofs.Bools.{same_number}
use Rattle.tally.proofs.tally.with_line.Goals as goal

pub returns-in-Nothing : goal.returns-in-Nothing
unfolding with_line
returns-in-Nothing c = rw c.in-Nothing.is

pub returns-in-Damaged : goal.returns-in-Damaged
unfolding with_line
returns-in-Damaged c = rw c.in-Damaged.is c.spoilt.ensures

pub returns-then-eq : goal.returns-then-eq
unfolding with_line
returns-then-eq c =
    let r = c.in-Range in
    rw (r.is, sym (same_number r.property c.args.p) ∙ sym c.eq.ensures ∙ c.if-eq.true) c.with_range.ensures

pub returns-else-eq : goal.returns-else-eq
unfolding with_line
returns-else-eq c = let r = c.in-Range in rw (r.is, sym (same_number r.property c.args.p) ∙ sym c.eq.ensures ∙ c.if-eq.false)
