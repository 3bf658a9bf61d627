use Rattle.std.proofs.Common.{ap, ◌∙◌}
use Rattle.utf8.specs.Picks.{picks}
use Rattle.scan.specs.Walk.{turn_of}
use Rattle.reading.specs.Attribute.{attribute_turn}
use Rattle.tok.proofs.attribute.attribute_turn.Goals as goal

pub returns-then-c-eq-LEFT_BRACKET : goal.returns-then-c-eq-LEFT_BRACKET
unfolding attribute_turn
returns-then-c-eq-LEFT_BRACKET c = search picks

pub returns-then-b-lt2 : goal.returns-then-b-lt2
unfolding attribute_turn
returns-then-b-lt2 c = search picks

pub returns-then-c-eq-RIGHT_BRACKET : goal.returns-then-c-eq-RIGHT_BRACKET
unfolding attribute_turn
returns-then-c-eq-RIGHT_BRACKET c = search picks

pub returns-then-c-eq-DOUBLE_QUOTE : goal.returns-then-c-eq-DOUBLE_QUOTE
unfolding attribute_turn
returns-then-c-eq-DOUBLE_QUOTE c = let h = c.to_turn.ensures ∙ ap (turn_of _) c.string_skip.ensures in search picks

pub returns-then-c-eq-NEWLINE : goal.returns-then-c-eq-NEWLINE
unfolding attribute_turn
returns-then-c-eq-NEWLINE c = search picks

pub returns : goal.returns
unfolding attribute_turn
returns c = search picks
