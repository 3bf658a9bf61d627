use Rattle.code.specs.Code.{closes}
use Rattle.utf8.specs.Picks.{picks}
use Rattle.code.proofs.is_close.Goals as goal

pub returns-then-c-eq-RIGHT_PAREN : goal.returns-then-c-eq-RIGHT_PAREN
unfolding closes
returns-then-c-eq-RIGHT_PAREN c = search picks

pub returns-then-c-eq-RIGHT_BRACKET : goal.returns-then-c-eq-RIGHT_BRACKET
unfolding closes
returns-then-c-eq-RIGHT_BRACKET c = search picks

pub returns : goal.returns
unfolding closes
returns c = search picks
