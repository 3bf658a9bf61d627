use Rattle.std.proofs.Common.{◌+◌, ◌∙◌, ℕ, ap, sym, arith}
use Rattle.text.specs.DigitLaws.{length_digits}
use Rattle.text.specs.Stores.{writing_first, writing_last, writing_on}
use Rattle.text.proofs.number_in.Goals as goal

pub loop-i-init : goal.loop-i-init
loop-i-init c = writing_first _ _ _ _ (ap (λ (k : ℕ). c.args.at + k) c.width.ensures) c.requires

pub overflow_add-end : goal.overflow_add-end
overflow_add-end c = omega (arith, length_digits c.args.n, c.width.ensures)

pub loop-i-preserved : goal.loop-i-preserved
loop-i-preserved c = writing_on _ _ _ _ _ _ c.loop-i.invariant c.loop-i-test.true

pub returns : goal.returns
returns c =
    let a = c.args in
    (ap (λ (k : ℕ). a.at + k) (c.width.ensures ∙ sym (length_digits a.n)), writing_last _ _ _ _ _ _ c.loop-i.invariant c.loop-i-test.false)
