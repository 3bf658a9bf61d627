use Rattle.table.specs.Laws.{put-more}
use Rattle.table.specs.Table.{advance_lines}
use Rattle.text.specs.Bytes.{bytes}
use Rattle.table.proofs.advances_onto.Goals as goal

pub returns : goal.returns
unfolding advance_lines bytes
returns c = put-more _ _ _ _ _ _ _ _ c.plain_line-head.ensures (put-more _ _ _ _ _ _ _ _ (rw c.saturating_sub.ensures at c.plain_line-cost.ensures) c.plain_line.ensures)
