use Rattle.std.proofs.Common.{rules}
use Rattle.utf8.specs.Utf8.{low}
use Rattle.utf8.specs.Picks.{picks}
use Rattle.utf8.proofs.low_of.Goals as goal

-- src/lib.rt:31:9
pub returns-then-a-eq224 : goal.returns-then-a-eq224
unfolding low
returns-then-a-eq224 c = (search picks depth 8, search rules)

-- src/lib.rt:34:9
pub returns-then-a-eq240 : goal.returns-then-a-eq240
unfolding low
returns-then-a-eq240 c = (search picks depth 8, search rules)

-- src/lib.rt:27:1
pub returns : goal.returns
unfolding low
returns c = (search picks depth 8, search rules)
