use Rattle.shown.proofs.Put.{refusal-fits, within}
use Rattle.shown.proofs.refusal.Goals as goal

pub invariant_of-result : goal.invariant_of-result
invariant_of-result c = (within _ _ (refusal-fits _ _) _ _ _ c.refusal_line.ensures c.unwrap_or-length.ensures).0

pub returns : goal.returns
returns c = rw (c.from-number.ensures, c.code_number.ensures) at (within _ _ (refusal-fits _ _) _ _ _ c.refusal_line.ensures c.unwrap_or-length.ensures).1
