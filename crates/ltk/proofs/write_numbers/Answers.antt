use Rattle.std.proofs.Common.{rules}
use Rattle.ltk.specs.Ltk.{entry_in}
use Rattle.ltk.proofs.write_numbers.Goals as goal

pub returns : goal.returns
returns c = c.write_records.ensures (entry_in c.args.list.now) (λ i h e p. search rules)
