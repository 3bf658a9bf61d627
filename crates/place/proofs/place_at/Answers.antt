use Rattle.std.proofs.Common.{rules, sym, ap, ◌∙◌}
use Rattle.std.specs.Prelude.{Ok}
use Rattle.record.specs.Allowed.{allowed}
use Rattle.place.specs.Place.{answered, located}
use Rattle.place.proofs.place_at.Goals as goal

pub line_start-requires : goal.line_start-requires
line_start-requires c = (allowed _ _ (sym c.checks.ensures ∙ c.in_ok-checks.was)).valid

pub returns-in_err-checks : goal.returns-in_err-checks
unfolding answered located
returns-in_err-checks c = rw (sym c.checks.ensures ∙ c.in_err-checks.was) (search rules)

pub returns : goal.returns
unfolding answered located
returns c = rw (sym c.checks.ensures ∙ c.in_ok-checks.was) (ap Ok (c.along.ensures ∙ sym (c.line_start.ensures.2 _)))
