use Rattle.commands.specs.Laws.{lay-two}
use Rattle.commands.specs.Lists.{limit_lines}
use Rattle.commands.proofs.limit_onto.Goals as goal

pub returns : goal.returns
unfolding limit_lines
returns c = lay-two _ _ _ _ _ _ _ _ c.put-named.ensures (rw c.number_of.ensures at c.limit_line.ensures)
