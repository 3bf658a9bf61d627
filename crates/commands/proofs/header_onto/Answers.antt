use Rattle.std.proofs.Common.{refl}
use Rattle.text.specs.Lay.{lay_all}
use Rattle.commands.specs.Laws.{lay-two}
use Rattle.commands.specs.Lists.{header_lines}
use Rattle.commands.proofs.header_onto.Goals as goal

pub returns-then-headed : goal.returns-then-headed
unfolding header_lines
returns-then-headed c = rw c.if-headed.true (lay-two _ _ _ _ _ _ _ _ c.put-named.ensures c.header_line.ensures)

pub returns : goal.returns
unfolding header_lines lay_all
returns c = rw c.if-headed.false (refl, refl)
