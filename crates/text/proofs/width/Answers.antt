use Rattle.std.proofs.Common.{arith}
use Rattle.text.specs.DigitLaws.{counted_all, counted-first, counted-most, counted-on}
use Rattle.text.proofs.width.Goals as goal

pub loop-w-init : goal.loop-w-init
loop-w-init c = counted-first _

pub returns-then-m-lt10 : goal.returns-then-m-lt10
returns-then-m-lt10 c = counted_all _ _ _ c.loop-w.invariant c.loop-w-test.true c.if-m-lt10.true

pub loop-w-preserved : goal.loop-w-preserved
loop-w-preserved c = counted-on _ _ _ c.loop-w.invariant c.loop-w-test.true c.if-m-lt10.false

pub returns : goal.returns
returns c = let e = counted-most _ _ _ c.loop-w.invariant c.loop-w-test.false in omega (arith, e)
