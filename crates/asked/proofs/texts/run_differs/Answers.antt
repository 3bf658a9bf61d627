use Rattle.asked.specs.Answers.{answer_differs}
use Rattle.asked.specs.Texts.{run_differs}
use Rattle.asked.proofs.texts.run_differs.Goals as goal

pub returns : goal.returns
unfolding run_differs answer_differs
returns c =
    rw (← c.size.ensures, ← c.front.ensures, ← c.front-2.ensures, ← c.rest.ensures, ← c.code.ensures, ← c.place.ensures, ← c.numbers_differ.ensures, ← c.numbers_differ-2.ensures) c.onward.ensures
