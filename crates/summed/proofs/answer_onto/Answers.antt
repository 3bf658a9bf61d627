use Rattle.std.proofs.Common.{eq-eqb, ne_eqb}
use Rattle.summed.specs.Summed.{answer_onto}
use Rattle.summed.proofs.answer_onto.Goals as goal

pub returns-then-code-eq0 : goal.returns-then-code-eq0
unfolding answer_onto
returns-then-code-eq0 c =
    rw (← c.get-code.ensures, eq-eqb _ _ c.if-code-eq0.true)
    c.ended_onto.ensures

pub returns-else-code-eq0 : goal.returns-else-code-eq0
unfolding answer_onto
returns-else-code-eq0 c = rw (← c.get-code.ensures, ne_eqb _ _ c.if-code-eq0.false) c.tallied_onto.ensures
