use Rattle.scan.specs.IfNext.{nexts}
use Rattle.code.specs.Code.{r_skip}
use Rattle.code.proofs.r_skip.Goals as goal

pub returns-then-is_next : goal.returns-then-is_next
unfolding r_skip
returns-then-is_next c = let h = rw c.regex_start.ensures at c.hash_skip.ensures in search nexts

pub returns : goal.returns
unfolding r_skip
returns c = search nexts
