use Rattle.summed.specs.Summed.{is_refused, recorded_onto}
use Rattle.summed.proofs.recorded_onto.Goals as goal

pub returns-then-code : goal.returns-then-code
unfolding is_refused recorded_onto
returns-then-code c = rw (← c.get-code.ensures, c.if-code.true)

pub returns : goal.returns
unfolding is_refused recorded_onto
returns c = rw (← c.get-code.ensures, c.if-code.false, ← c.answer_onto.ensures) c.more.ensures
