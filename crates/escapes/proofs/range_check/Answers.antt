use Rattle.utf8.specs.Picks.{flags}
use Rattle.escapes.specs.Answers.{range_check}
use Rattle.escapes.proofs.range_check.Goals as goal

pub returns-then-inside : goal.returns-then-inside
unfolding range_check
returns-then-inside c = search flags

pub returns : goal.returns
unfolding range_check
returns c = search flags
