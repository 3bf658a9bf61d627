use Rattle.text.specs.Bytes.{bytes}
use Rattle.shown.proofs.Going.{going-first, going-last, going-on}
use Rattle.shown.proofs.page.numbers.Goals as goal

pub loop-i-init : goal.loop-i-init
unfolding bytes
loop-i-init c = going-first _ _ _ _ _ c.put-came.ensures

pub loop-i-preserved : goal.loop-i-preserved
loop-i-preserved c = going-on _ _ _ _ _ _ c.loop-i.invariant _ _ c.loop-i-test.true c.number_onto-came.ensures

pub returns : goal.returns
unfolding bytes
returns c = going-last _ _ _ _ _ _ c.loop-i.invariant _ _ c.loop-i-test.false c.put.ensures
