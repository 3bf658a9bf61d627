use Rattle.table.specs.Laws.{put-more}
use Rattle.table.proofs.after_name.Goals as goal

pub returns : goal.returns
returns c = put-more _ _ _ _ _ _ _ _ (rw (c.saturating_sub-taken.ensures, c.reached.ensures, c.reached-2.ensures) at c.pad-room.ensures) c.right.ensures
