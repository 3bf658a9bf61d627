use Rattle.std.proofs.Common.{arith}
use Rattle.table.specs.Laws.{going_all, going-first, going_on}
use Rattle.table.proofs.each_onto.Goals as goal

pub loop-i-init : goal.loop-i-init
loop-i-init g c = going-first _ _ _ _ _

pub loop-i-preserved : goal.loop-i-preserved
loop-i-preserved g c =
    let p = c.requires.1.1.1 _ _ _ _ _ _ c.one-came.ensures in
    going_on _ _ _ _ _ _ _ _ _ _ _ c.loop-i.invariant c.loop-i-test.true p (omega arith)

pub returns : goal.returns
returns g c = going_all _ _ _ _ _ _ _ _ c.loop-i.invariant c.loop-i-test.false
