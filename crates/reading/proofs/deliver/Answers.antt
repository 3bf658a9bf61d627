use Rattle.reading.specs.Answers.{deliver}
use Rattle.reading.proofs.deliver.Goals as goal

pub returns : goal.returns
unfolding deliver
returns c = rw c.token_of-t.ensures
