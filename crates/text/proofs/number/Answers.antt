use Rattle.std.proofs.Common.{append-nil}
use Rattle.text.specs.Pieces.{all_bytes}
use Rattle.text.specs.Digits.{digits}
use Rattle.text.proofs.number.Goals as goal

pub returns : goal.returns
unfolding all_bytes
returns c = rw (append-nil (digits c.args.n)) at c.compose.ensures
