use Rattle.text.specs.Bytes.{bytes, join}
use Rattle.text.specs.Lines.{token_line}
use Rattle.text.specs.Pieces.{all_bytes, phrase, phrases}
use Rattle.text.proofs.token_line.Goals as goal

pub returns : goal.returns
unfolding all_bytes bytes join phrase phrases token_line
returns c = c.compose.ensures
