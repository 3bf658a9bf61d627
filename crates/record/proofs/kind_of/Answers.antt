use Rattle.std.proofs.Common.{lt-ltb, le-ltb}
use Rattle.record.specs.Numbers.{kind_of, kinds}
use Rattle.record.proofs.kind_of.Goals as goal

-- src/lib.rt:266:9
pub returns-then-n-ge54 : goal.returns-then-n-ge54
unfolding kind_of
returns-then-n-ge54 c = rw (le-ltb _ _ c.if-n-ge54.true)

-- src/lib.rt:262:1
pub returns : goal.returns
unfolding kind_of kinds
returns c = rw (lt-ltb _ _ c.if-n-ge54.false)
