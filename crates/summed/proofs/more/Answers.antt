use Rattle.std.proofs.Common.{refl, arith}
use Rattle.summed.specs.Summed.{more}
use Rattle.summed.specs.Laws.{more_out}
use Rattle.summed.proofs.more.Goals as goal

pub returns-then-i-row : goal.returns-then-i-row
unfolding more
returns-then-i-row c = refl

pub returns-else-i-row : goal.returns-else-i-row
returns-else-i-row c = more_out _ _ _ (omega arith)
