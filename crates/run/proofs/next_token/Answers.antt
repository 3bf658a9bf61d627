use Rattle.std.proofs.Common.{sym, ◌∙◌}
use Rattle.utf8.specs.Picks.{flags}
use Rattle.run.specs.Checked.{next_token_with}
use Rattle.run.specs.Steps.{ready_of}
use Rattle.run.proofs.next_token.Goals as goal

pub step-requires : goal.step-requires
step-requires c = ready_of _ _ _ (sym c.in-Ok.ensures) (sym c.is_boundary.ensures ∙ c.if-is_boundary.true)

pub returns-then-is_boundary : goal.returns-then-is_boundary
unfolding next_token_with
returns-then-is_boundary c = rw (← c.checks.ensures) (rw c.in-Ok.is (search flags))

pub returns-else-is_boundary : goal.returns-else-is_boundary
unfolding next_token_with
returns-else-is_boundary c = rw (← c.checks.ensures) (rw c.in-Ok.is (search flags))

pub returns-in-Err : goal.returns-in-Err
unfolding next_token_with
returns-in-Err c = rw (← c.checks.ensures) (rw c.in-Err.is)
