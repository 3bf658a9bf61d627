use Rattle.std.proofs.Common.{rules}
use Rattle.utf8.specs.Utf8.{high}
use Rattle.utf8.specs.Picks.{picks}
use Rattle.utf8.proofs.high_of.Goals as goal

-- src/lib.rt:43:9
pub returns-then-a-eq237 : goal.returns-then-a-eq237
unfolding high
returns-then-a-eq237 c = (search picks depth 8, search rules)

-- src/lib.rt:46:9
pub returns-then-a-eq244 : goal.returns-then-a-eq244
unfolding high
returns-then-a-eq244 c = (search picks depth 8, search rules)

-- src/lib.rt:39:1
pub returns : goal.returns
unfolding high
returns c = (search picks depth 8, search rules)
