use Rattle.std.proofs.Common.{refl}
use Rattle.text.specs.Lay.{lay_all}
use Rattle.commands.proofs.people_onto.Goals as goal

pub returns-in-Ended : goal.returns-in-Ended
unfolding lay_all
returns-in-Ended c = rw c.in-Ended.is (refl, refl)

pub returns-in-Running : goal.returns-in-Running
unfolding lay_all
returns-in-Running c = rw c.in-Running.is (refl, refl)
