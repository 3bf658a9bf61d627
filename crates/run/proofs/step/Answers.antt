use Rattle.std.proofs.Common.{sym, ◌∙◌}
use Rattle.reading.specs.Run.{step_with}
use Rattle.run.specs.Steps.{step-running}
use Rattle.run.proofs.step.Goals as goal

pub returns-in-Running : goal.returns-in-Running
returns-in-Running c = c.read_on.ensures ∙ sym (step-running _ _ _ _ c.in-Running.is)

pub returns-in-Ended : goal.returns-in-Ended
unfolding step_with
returns-in-Ended c = rw c.in-Ended.is

pub returns-in-Refused : goal.returns-in-Refused
unfolding step_with
returns-in-Refused c = rw c.in-Refused.is
