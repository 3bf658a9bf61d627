use Rattle.utf8.specs.Utf8.{lead}
use Rattle.utf8.specs.Picks.{picks}
use Rattle.utf8.proofs.decode.Goals as goal

-- src/lib.rt:56:9
pub returns-then-a-lt128 : goal.returns-then-a-lt128
unfolding lead
returns-then-a-lt128 c = search picks depth 14

-- src/lib.rt:59:9
pub returns-then-a-lt194 : goal.returns-then-a-lt194
unfolding lead
returns-then-a-lt194 c = search picks depth 14

-- src/lib.rt:63:9
pub returns-then-b-l : goal.returns-then-b-l
unfolding lead
returns-then-b-l c = search picks depth 14

-- src/lib.rt:67:9
pub returns-then-h-b : goal.returns-then-h-b
unfolding lead
returns-then-h-b c = search picks depth 14

-- src/lib.rt:70:9
pub returns-then-a-lt224 : goal.returns-then-a-lt224
unfolding lead
returns-then-a-lt224 c = search picks depth 14

-- src/lib.rt:76:9
pub returns-then-c-lt128 : goal.returns-then-c-lt128
unfolding lead
returns-then-c-lt128 c = search picks depth 14

-- src/lib.rt:79:9
pub returns-then-c-gt191 : goal.returns-then-c-gt191
unfolding lead
returns-then-c-gt191 c = search picks depth 14

-- src/lib.rt:82:9
pub returns-then-a-lt240 : goal.returns-then-a-lt240
unfolding lead
returns-then-a-lt240 c = search picks depth 14

-- src/lib.rt:88:9
pub returns-then-d-lt128 : goal.returns-then-d-lt128
unfolding lead
returns-then-d-lt128 c = search picks depth 14

-- src/lib.rt:91:9
pub returns-then-d-gt191 : goal.returns-then-d-gt191
unfolding lead
returns-then-d-gt191 c = search picks depth 14

-- src/lib.rt:94:9
pub returns-then-a-lt245 : goal.returns-then-a-lt245
unfolding lead
returns-then-a-lt245 c = search picks depth 14

-- src/lib.rt:52:1
pub returns : goal.returns
unfolding lead
returns c = search picks depth 14
