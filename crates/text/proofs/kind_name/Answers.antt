use Rattle.std.proofs.Common.{append-nil}
use Rattle.text.specs.Pieces.{all_bytes}
use Rattle.text.specs.Names.{kind_name}
use Rattle.text.proofs.kind_name.Goals as goal

pub returns : goal.returns
unfolding all_bytes
returns c = rw (append-nil (kind_name c.args.kind)) at c.compose.ensures
