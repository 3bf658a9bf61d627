use Rattle.code.specs.Code.{opens}
use Rattle.utf8.specs.Picks.{picks}
use Rattle.code.proofs.is_open.Goals as goal

pub returns-then-c-eq-LEFT_PAREN : goal.returns-then-c-eq-LEFT_PAREN
unfolding opens
returns-then-c-eq-LEFT_PAREN c = search picks

pub returns-then-c-eq-LEFT_BRACKET : goal.returns-then-c-eq-LEFT_BRACKET
unfolding opens
returns-then-c-eq-LEFT_BRACKET c = search picks

pub returns : goal.returns
unfolding opens
returns c = search picks
