use Rattle.reading.specs.Answers.{refuse}
use Rattle.reading.proofs.refuse.Goals as goal

pub returns : goal.returns
unfolding refuse
returns c = c.fail.ensures
