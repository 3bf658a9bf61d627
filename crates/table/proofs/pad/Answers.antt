use Rattle.table.specs.Laws.{few_spaces, put_one}
use Rattle.table.specs.Table.{spaces}
use Rattle.table.proofs.pad.Goals as goal

pub returns : goal.returns
unfolding spaces
returns c = put_one _ _ _ _ _ (rw (few_spaces _ _ _ c.requires c.saturating_sub-n.ensures) at c.put.ensures)
