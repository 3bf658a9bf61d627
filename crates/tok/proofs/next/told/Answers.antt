use Rattle.reading.specs.Answers.{told}
use Rattle.tok.proofs.next.told.Goals as goal

pub returns : goal.returns
unfolding told
returns c = rw c.told_what.ensures
