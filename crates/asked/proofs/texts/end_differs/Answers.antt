use Rattle.asked.specs.Texts.{end_differs}
use Rattle.asked.proofs.texts.end_differs.Goals as goal

pub returns : goal.returns
unfolding end_differs
returns c = rw (← c.front.ensures, ← c.numbers_differ.ensures, ← c.rest.ensures, ← c.size.ensures, ← c.length_differs.ensures) c.onward.ensures
