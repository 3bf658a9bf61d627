use Rattle.std.proofs.Common.{◌*◌}
use Rattle.ltk.specs.Ltk.{group_size}
use Rattle.ltk.proofs.Laying.{group_laid}
use Rattle.ltk.proofs.put_group.Goals as goal

pub returns : goal.returns
returns c = group_laid c.args.list.now (group_size * c.args.i) c.args.e
