use Rattle.std.proofs.Common.{arith, ap, ◌∙◌}
use Rattle.std.specs.Prelude.{Some}
use Rattle.text.specs.Stores.{lay-fit, lay_full}
use Rattle.text.proofs.put_at.Goals as goal

-- src/lib.rt:78:9
pub returns-then-out-at : goal.returns-then-out-at
returns-then-out-at c = lay_full _ _ _ (omega arith)

-- src/lib.rt:81:9
pub returns-then-out-at-2 : goal.returns-then-out-at-2
returns-then-out-at-2 c = lay_full _ _ _ (omega arith)

-- src/lib.rt:71:1
pub returns : goal.returns
returns c =
    let a = c.args in
    let f = lay-fit a.out.now a.words.now a.at (omega arith) in
    (ap Some c.words_in.ensures.0 ∙ f.0, c.words_in.ensures.1 ∙ f.1)
