use Rattle.reading.specs.Answers.{plain}
use Rattle.reading.proofs.plain.Goals as goal

pub returns : goal.returns
unfolding plain
returns c = c.deliver.ensures
