use Rattle.scan.specs.IfNext.{nexts}
use Rattle.reading.specs.Regex.{r_word}
use Rattle.tok.proofs.regex.r_word.Goals as goal

pub returns-then-is_next : goal.returns-then-is_next
unfolding r_word
returns-then-is_next c = search nexts

pub returns-then-is_next-2 : goal.returns-then-is_next-2
unfolding r_word
returns-then-is_next-2 c = search nexts

pub returns : goal.returns
unfolding r_word
returns c = search nexts
