use Rattle.std.proofs.Common.{refl}
use Rattle.asked.specs.Texts.{blank}
use Rattle.asked.proofs.texts.blank.Goals as goal

pub returns : goal.returns
unfolding blank
returns c = refl
