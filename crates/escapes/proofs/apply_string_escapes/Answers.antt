use Rattle.std.proofs.Common.{rules, sym, ◌∙◌}
use Rattle.escapes.specs.Answers.{applied}
use Rattle.escapes.proofs.Place.{readable}
use Rattle.escapes.proofs.apply_string_escapes.Goals as goal

pub returns-in_err-checks : goal.returns-in_err-checks
unfolding applied
returns-in_err-checks c = rw (sym c.checks.ensures ∙ c.in_err-checks.was) (search rules)

pub expand_into-requires : goal.expand_into-requires
expand_into-requires c = readable _ _ (sym c.checks.ensures ∙ c.in_ok-checks.was)

pub returns : goal.returns
unfolding applied
returns c = rw (sym c.checks.ensures ∙ c.in_ok-checks.was) (search rules)
