use Rattle.std.proofs.Common.{arith}
use Rattle.summed.specs.Laws.{more_out}
use Rattle.summed.proofs.tallied_onto.Goals as goal

pub returns-else-c-row : goal.returns-else-c-row
returns-else-c-row c = more_out _ _ _ (omega arith)
