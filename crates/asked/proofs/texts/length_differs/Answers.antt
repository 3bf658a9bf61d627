use Rattle.std.proofs.Common.{arith, length, eq-eqb, ne_eqb}
use Rattle.asked.specs.Texts.{length_differs}
use Rattle.asked.proofs.texts.length_differs.Goals as goal

pub returns-then-tokens-count : goal.returns-then-tokens-count
unfolding length_differs
returns-then-tokens-count c = let a = c.args in rw (ne_eqb (length a.tokens.now) a.count (λ e. omega arith))

pub returns : goal.returns
unfolding length_differs
returns c = let a = c.args in rw (eq-eqb (length a.tokens.now) a.count (omega arith))
