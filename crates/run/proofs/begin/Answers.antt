use Rattle.std.proofs.Common.{sym, ◌∙◌}
use Rattle.utf8.specs.Picks.{flags}
use Rattle.run.specs.Pending.{begin_of}
use Rattle.run.specs.Steps.{ready_of}
use Rattle.run.proofs.begin.Goals as goal

pub pend-requires : goal.pend-requires
pend-requires c = ready_of _ _ _ (sym c.in-Ok.ensures) (sym c.is_boundary.ensures ∙ c.if-is_boundary.true)

pub returns-then-is_boundary : goal.returns-then-is_boundary
unfolding begin_of
returns-then-is_boundary c = rw (← c.checks.ensures) (rw c.in-Ok.is (search flags))

pub returns-else-is_boundary : goal.returns-else-is_boundary
unfolding begin_of
returns-else-is_boundary c = rw (← c.checks.ensures) (rw c.in-Ok.is (search flags))

pub returns-in-Err : goal.returns-in-Err
unfolding begin_of
returns-in-Err c = rw (← c.checks.ensures) (rw c.in-Err.is c.halted-in-Err.ensures)
