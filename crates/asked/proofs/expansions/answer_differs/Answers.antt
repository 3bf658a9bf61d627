use Rattle.asked.specs.Answers.{answer_differs}
use Rattle.asked.proofs.expansions.answer_differs.Goals as goal

pub returns : goal.returns
unfolding answer_differs
returns c = rw (← c.front.ensures, ← c.rest.ensures, ← c.numbers_differ.ensures, ← c.bytes_differ.ensures) c.onward.ensures
