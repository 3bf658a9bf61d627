use Rattle.text.specs.Bytes.{bytes, join}
use Rattle.text.specs.Lines.{depth_line}
use Rattle.text.specs.Pieces.{all_bytes, phrase, phrases, spaced}
use Rattle.text.proofs.depth_line.Goals as goal

pub returns : goal.returns
unfolding all_bytes bytes join phrase phrases spaced depth_line
returns c = c.compose.ensures
