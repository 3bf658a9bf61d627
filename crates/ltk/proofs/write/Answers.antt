use Rattle.std.proofs.Common.{arith}
use Rattle.std.proofs.lemmas.Grind.{common_steps}
use Rattle.std.proofs.lemmas.List.{get_or_default}
use Rattle.ltk.proofs.Writing.{token_entry, tokens-listed}
use Rattle.ltk.proofs.write.Goals as goal

pub returns : goal.returns
returns c = rw tokens-listed at (c.write_records.ensures (token_entry c.args.list.now) (λ i h e p. grind (arith, common_steps, get_or_default)))
