use Rattle.table.specs.Laws.{put-more}
use Rattle.table.specs.Table.{errors, text_lines}
use Rattle.text.specs.Bytes.{bytes}
use Rattle.table.proofs.texts_onto.Goals as goal

pub returns : goal.returns
unfolding bytes errors text_lines
returns c = put-more _ _ _ _ _ _ _ _ c.plain_line-taken.ensures (put-more _ _ _ _ _ _ _ _ c.each_onto-errors.ensures c.plain_line.ensures)
