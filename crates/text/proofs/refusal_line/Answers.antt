use Rattle.text.specs.Bytes.{bytes, join}
use Rattle.text.specs.Lines.{refusal_line}
use Rattle.text.specs.Pieces.{all_bytes, phrase, phrases}
use Rattle.text.proofs.refusal_line.Goals as goal

pub returns : goal.returns
unfolding all_bytes bytes join phrase phrases refusal_line
returns c = c.compose.ensures
