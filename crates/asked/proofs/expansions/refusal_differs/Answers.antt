use Rattle.asked.specs.Expansions.{expanded_by}
use Rattle.asked.proofs.expansions.refusal_differs.Goals as goal

pub returns : goal.returns
unfolding expanded_by
returns c = rw (← c.code_number.ensures, ← c.written.ensures) c.answer_differs.ensures
