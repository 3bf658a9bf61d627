use Rattle.shown.proofs.Put.{number-fits, within}
use Rattle.shown.proofs.number.Goals as goal

pub invariant_of-result : goal.invariant_of-result
invariant_of-result c = (within _ _ (number-fits _) _ _ _ c.number.ensures c.unwrap_or-length.ensures).0

pub returns : goal.returns
returns c = (within _ _ (number-fits _) _ _ _ c.number.ensures c.unwrap_or-length.ensures).1
