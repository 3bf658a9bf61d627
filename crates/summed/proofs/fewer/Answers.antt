use Rattle.std.proofs.Common.{refl, arith}
use Rattle.summed.specs.Summed.{fewer}
use Rattle.summed.specs.Laws.{fewer_out}
use Rattle.summed.proofs.fewer.Goals as goal

pub returns-then-i-row : goal.returns-then-i-row
unfolding fewer
returns-then-i-row c = refl

pub returns-else-i-row : goal.returns-else-i-row
returns-else-i-row c = fewer_out _ _ _ (omega arith)
