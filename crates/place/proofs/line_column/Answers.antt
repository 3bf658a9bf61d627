use Rattle.std.proofs.Common.{rules, sym, ap, ◌∙◌}
use Rattle.std.specs.Prelude.{Ok}
use Rattle.record.specs.Allowed.{allowed}
use Rattle.place.specs.Place.{answered, reported}
use Rattle.place.proofs.line_column.Goals as goal

pub walk-requires : goal.walk-requires
walk-requires c = (allowed _ _ (sym c.checks.ensures ∙ c.in_ok-checks.was)).valid

pub returns-in_err-checks : goal.returns-in_err-checks
unfolding answered reported
returns-in_err-checks c = rw (sym c.checks.ensures ∙ c.in_err-checks.was) (search rules)

pub returns : goal.returns
unfolding answered reported
returns c = rw (sym c.checks.ensures ∙ c.in_ok-checks.was) (ap Ok c.walk.ensures)
