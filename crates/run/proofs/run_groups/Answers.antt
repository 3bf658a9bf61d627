use Rattle.std.proofs.Common.{sym, ap, ◌∙◌}
use Rattle.run.specs.declared.Pending.{Pending}
use Rattle.run.proofs.Groups.{off_run, refused_run}
use Rattle.run.proofs.run_groups.Goals as goal

pub returns-else-is_boundary : goal.returns-else-is_boundary
returns-else-is_boundary c = let o = off_run _ _ _ _ _ _ _ (sym c.in-Ok.ensures) (sym c.is_boundary.ensures ∙ c.if-is_boundary.false) in (ap (λ (q : Pending). q.ran) c.halted-p.ensures ∙ o.0, o.1)

pub returns-in-Err : goal.returns-in-Err
returns-in-Err c = let o = refused_run _ _ _ _ _ _ _ _ (sym c.in-Err.ensures) in (ap (λ (q : Pending). q.ran) c.halted-p-in-Err.ensures ∙ o.0, o.1)
