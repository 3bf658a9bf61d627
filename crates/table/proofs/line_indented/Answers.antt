use Rattle.table.specs.Laws.{line-two}
use Rattle.text.specs.Bytes.{bytes}
use Rattle.table.proofs.line_indented.Goals as goal

pub returns : goal.returns
unfolding bytes
returns g c = line-two _ _ _ _ _ _ _ _ _ _ _ c.put-start.ensures (c.requires.1.1 _ _ _ _ _ c.name-told.ensures) c.after_name.ensures
