use Rattle.std.proofs.Common.{arith}
use Rattle.commands.specs.Laws.{lay-two}
use Rattle.commands.specs.Lists.{refused_lines}
use Rattle.place.specs.Order.{place_small}
use Rattle.commands.proofs.refused_onto.Goals as goal

pub overflow_add-at : goal.overflow_add-at
overflow_add-at c = let a = c.args in rw c.in_beginning-at.ensures (omega (arith, place_small a.text.now a.r.place))

pub overflow_add-at-2 : goal.overflow_add-at-2
overflow_add-at-2 c = let a = c.args in rw c.in_beginning-at.ensures (omega (arith, place_small a.text.now a.r.place))

pub returns : goal.returns
unfolding refused_lines
returns c = lay-two _ _ _ _ _ _ _ _ c.put-named.ensures (rw (c.number_of.ensures, c.in_beginning-at.ensures) at c.people_line.ensures)
