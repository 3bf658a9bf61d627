use Rattle.std.proofs.Common.{append-nil}
use Rattle.text.specs.Pieces.{all_bytes}
use Rattle.text.specs.Names.{code_name}
use Rattle.text.proofs.code_name.Goals as goal

pub returns : goal.returns
unfolding all_bytes
returns c = rw (append-nil (code_name c.args.code)) at c.compose.ensures
