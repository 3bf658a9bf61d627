use Rattle.table.specs.Laws.{put-more, put_one}
use Rattle.table.proofs.right.Goals as goal

pub returns : goal.returns
returns c = put-more _ _ _ _ _ _ _ _ (rw c.width.ensures at c.pad-room.ensures) (put_one _ _ _ _ _ c.number.ensures)
