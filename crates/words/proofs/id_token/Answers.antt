use Rattle.scan.specs.IfNext.{nexts}
use Rattle.reading.specs.Words.{id_token}
use Rattle.words.proofs.id_token.Goals as goal

pub returns-then-is_next : goal.returns-then-is_next
unfolding id_token
returns-then-is_next c = search nexts

pub returns : goal.returns
unfolding id_token
returns c = search nexts
