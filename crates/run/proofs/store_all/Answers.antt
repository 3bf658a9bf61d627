use Rattle.std.proofs.Common.{ap, ◌∙◌}
use Rattle.reading.proofs.Story.{again_end, again_error}
use Rattle.run.specs.declared.Pending.{Pending}
use Rattle.run.proofs.Groups.{idle_run}
use Rattle.run.proofs.store_all.Goals as goal

pub returns-in-Ended : goal.returns-in-Ended
returns-in-Ended c = let p = c.requires in let o = idle_run _ _ _ _ _ _ _ _ p.0 p.1 (again_end _ _ _ _ _ c.in-Ended.is) in (ap (λ (q : Pending). q.ran) c.halted-p.ensures ∙ o.0, o.1)

pub returns-in-Refused : goal.returns-in-Refused
returns-in-Refused c = let p = c.requires in let o = idle_run _ _ _ _ _ _ _ _ p.0 p.1 (again_error _ _ _ _ _ _ c.in-Refused.is) in (ap (λ (q : Pending). q.ran) c.halted-p-in-Refused.ensures ∙ o.0, o.1)
