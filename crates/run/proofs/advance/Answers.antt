use Rattle.run.specs.Pending.{advance_of}
use Rattle.run.proofs.advance.Goals as goal

pub returns : goal.returns
unfolding advance_of
returns c = c.pend.ensures
