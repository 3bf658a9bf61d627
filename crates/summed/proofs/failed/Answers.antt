use Rattle.std.proofs.Common.{◌∙◌}
use Rattle.std.specs.Prelude.{◌==◌}
use Rattle.summed.specs.Summed.{failed}
use Rattle.summed.proofs.Counts.{one_byte}
use Rattle.summed.proofs.failed.Goals as goal

pub returns : goal.returns
unfolding failed
returns c = c.from.ensures ∙ one_byte (c.args.kind == 34)
