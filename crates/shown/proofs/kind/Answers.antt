use Rattle.shown.proofs.Put.{kind-fits, within}
use Rattle.shown.proofs.kind.Goals as goal

pub invariant_of-result : goal.invariant_of-result
invariant_of-result c = (within _ _ (kind-fits _) _ _ _ c.kind_name.ensures c.unwrap_or-length.ensures).0

pub returns : goal.returns
returns c = (within _ _ (kind-fits _) _ _ _ c.kind_name.ensures c.unwrap_or-length.ensures).1
