use Rattle.std.proofs.Common.{◌*◌}
use Rattle.run.specs.Numbers.{group_size}
use Rattle.run.proofs.Groups.{group_laid}
use Rattle.lent.proofs.put_group.Goals as goal

pub returns : goal.returns
returns c = rw c.kind_number.ensures (group_laid c.args.records.now (group_size * c.args.i) c.args.t)
