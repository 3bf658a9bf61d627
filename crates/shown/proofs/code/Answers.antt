use Rattle.shown.proofs.Put.{code-fits, within}
use Rattle.shown.proofs.code.Goals as goal

pub invariant_of-result : goal.invariant_of-result
invariant_of-result c = (within _ _ (code-fits _) _ _ _ c.code_name.ensures c.unwrap_or-length.ensures).0

pub returns : goal.returns
returns c = (within _ _ (code-fits _) _ _ _ c.code_name.ensures c.unwrap_or-length.ensures).1
