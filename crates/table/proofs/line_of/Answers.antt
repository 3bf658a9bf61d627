use Rattle.table.specs.Laws.{line-one}
use Rattle.table.proofs.line_of.Goals as goal

pub returns : goal.returns
returns c = line-one _ _ _ _ _ _ _ _ c.put-named.ensures c.after_name.ensures
