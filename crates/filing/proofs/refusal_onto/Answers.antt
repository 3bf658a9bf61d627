use Rattle.std.proofs.Common.{le-ltb, lt-ltb}
use Rattle.filing.specs.Filed.{refusal_lines}
use Rattle.commands.specs.Laws.{lay-two}
use Rattle.filing.proofs.refusal_onto.Goals as goal

pub returns-then-number-gt12 : goal.returns-then-number-gt12
unfolding refusal_lines
returns-then-number-gt12 c = let n = c.number_of-number.ensures in rw (← n, lt-ltb _ _ c.if-number-gt12.true) (lay-two _ _ _ _ _ _ _ _ c.put-named.ensures c.place_line.ensures)

pub returns : goal.returns
unfolding refusal_lines
returns c = let n = c.number_of-number.ensures in rw (← n, le-ltb _ _ c.if-number-gt12.false) c.refused_onto.ensures
