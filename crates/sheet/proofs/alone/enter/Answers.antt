use Rattle.std.proofs.Common.{refl}
use Rattle.sheet.specs.Adds.{enter}
use Rattle.sheet.proofs.alone.enter.Goals as goal

pub returns : goal.returns
unfolding enter
returns c = refl
