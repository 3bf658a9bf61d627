use Rattle.filing.specs.Laws.{lay-none}
use Rattle.filing.proofs.taken_onto.Goals as goal

pub returns-in-Whole : goal.returns-in-Whole
returns-in-Whole c = rw c.in-Whole.is (lay-none _ _)
