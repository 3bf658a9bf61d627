use Rattle.std.proofs.Common.{ap, ◌∙◌}
use Rattle.utf8.specs.Picks.{flags}
use Rattle.scan.specs.Walk.{turn_of}
use Rattle.code.specs.Code.{code_turn}
use Rattle.code.proofs.code_turn.Goals as goal

pub returns-then-c-eq-DOUBLE_QUOTE : goal.returns-then-c-eq-DOUBLE_QUOTE
unfolding code_turn
returns-then-c-eq-DOUBLE_QUOTE c = let h = c.to_turn.ensures ∙ ap (turn_of _) c.string_skip.ensures in search flags depth 12

pub returns-then-c-eq-QUOTE : goal.returns-then-c-eq-QUOTE
unfolding code_turn
returns-then-c-eq-QUOTE c = let h = c.to_turn-then-c-eq-QUOTE.ensures ∙ ap (turn_of _) c.take_lifetime_or_character_literal.ensures in search flags depth 12

pub returns-then-c-eq-LOWER_R : goal.returns-then-c-eq-LOWER_R
unfolding code_turn
returns-then-c-eq-LOWER_R c = let h = c.to_turn-then-c-eq-LOWER_R.ensures ∙ ap (turn_of _) c.r_skip.ensures in search flags depth 12

pub returns-then-is_open : goal.returns-then-is_open
unfolding code_turn
returns-then-is_open c = search flags depth 12

pub returns-then-is_close : goal.returns-then-is_close
unfolding code_turn
returns-then-is_close c = search flags depth 12

pub returns-then-b-gt0 : goal.returns-then-b-gt0
unfolding code_turn
returns-then-b-gt0 c = search flags depth 12

pub returns-then-c-eq-COMMA : goal.returns-then-c-eq-COMMA
unfolding code_turn
returns-then-c-eq-COMMA c = search flags depth 12

pub returns-then-c-eq-SEMI : goal.returns-then-c-eq-SEMI
unfolding code_turn
returns-then-c-eq-SEMI c = search flags depth 12

pub returns-then-is_close-2 : goal.returns-then-is_close-2
unfolding code_turn
returns-then-is_close-2 c = search flags depth 12

pub returns : goal.returns
unfolding code_turn
returns c = search flags depth 12
