use Rattle.table.specs.Laws.{put-more}
use Rattle.table.specs.Table.{share_line}
use Rattle.text.specs.Bytes.{bytes}
use Rattle.table.proofs.share_line.Goals as goal

pub returns : goal.returns
unfolding bytes share_line
returns c = put-more _ _ _ _ _ _ _ _ c.line_of-begun.ensures (rw c.tenths.ensures at c.share_onto.ensures)
