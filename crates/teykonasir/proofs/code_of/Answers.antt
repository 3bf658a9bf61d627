use Rattle.std.proofs.Common.{lt-ltb, le-ltb}
use Rattle.teykonasir.proofs.Told.{code_is}
use Rattle.record.specs.Numbers.{codes}
use Rattle.teykonasir.specs.State.{code_known}
use Rattle.teykonasir.proofs.code_of.Reads as reads
use Rattle.teykonasir.proofs.code_of.Lts as lts
use Rattle.teykonasir.proofs.code_of.Goals as goal

pub returns-then-n-lt1 : goal.returns-then-n-lt1
unfolding code_known
returns-then-n-lt1 c = rw (lt-ltb _ _ c.if-n-lt1.true)

pub returns-then-n-ge30 : goal.returns-then-n-ge30
unfolding code_known
returns-then-n-ge30 c = rw (le-ltb _ _ c.if-n-lt1.false, le-ltb _ _ c.if-n-ge30.true)

pub returns : goal.returns
unfolding codes
returns c = code_is c.args.n _ c.if-n-lt1.false c.if-n-ge30.false
