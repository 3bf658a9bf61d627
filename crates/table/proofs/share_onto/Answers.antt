use Rattle.table.specs.Laws.{put_first, put-more, put_one}
use Rattle.table.specs.Table.{share}
use Rattle.text.specs.Bytes.{bytes}
use Rattle.table.proofs.share_onto.Goals as goal

pub returns : goal.returns
unfolding bytes share
returns c = put-more _ _ _ _ _ _ _ _ c.right-whole.ensures (put_first _ _ _ _ _ _ _ _ c.put-point.ensures (put_first _ _ _ _ _ _ _ _ c.number-decimal.ensures (put_one _ _ _ _ _ c.put.ensures)))
