use Rattle.std.proofs.Common.{refl}
use Rattle.reading.specs.Answers.{more}
use Rattle.tok.proofs.more.Goals as goal

pub returns : goal.returns
unfolding more
returns c = refl
