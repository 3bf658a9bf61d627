use Rattle.std.proofs.Common.{le-leb}
use borrow.Author.Tests.{lt-leb}
use Rattle.asked.specs.Texts.{token_differs}
use Rattle.asked.proofs.texts.token_differs.Goals as goal

pub returns-then-recorded-at : goal.returns-then-recorded-at
unfolding token_differs
returns-then-recorded-at c = simp (le-leb _ _ c.if-recorded-at.true)

pub returns : goal.returns
unfolding token_differs
returns c = rw (lt-leb _ _ c.if-recorded-at.false, ← c.kind.ensures, ← c.rest.ensures, ← c.front.ensures) c.numbers_differ.ensures
