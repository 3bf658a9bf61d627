use Rattle.table.specs.Laws.{put-more, put_one}
use Rattle.table.specs.Table.{plain_line}
use Rattle.text.specs.Bytes.{bytes}
use Rattle.table.proofs.plain_line.Goals as goal

pub returns : goal.returns
unfolding bytes plain_line
returns c = put-more _ _ _ _ _ _ _ _ c.line_of-begun.ensures (put_one _ _ _ _ _ c.put.ensures)
