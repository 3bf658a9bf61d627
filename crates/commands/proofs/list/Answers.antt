use Rattle.std.proofs.Common.{refl}
use Rattle.commands.specs.Laws.{list_long, list_run, no_part, only_part}
use Rattle.commands.proofs.list.Goals as goal

pub returns-then-part-eq0 : goal.returns-then-part-eq0
returns-then-part-eq0 c = list_long _ _ _ _ _ _ _ _ _ _ _ _ _ _ _ c.header_onto-head.ensures c.if-text-gt-TEXT_LIMIT.true (only_part _ _ _ _ _ _ _ _ _ _ _ _ refl c.if-part-eq0.true (rw c.number_of.ensures at c.error_line-line.ensures) c.limit_onto-people.ensures)

pub returns-then-text-gt-TEXT_LIMIT : goal.returns-then-text-gt-TEXT_LIMIT
returns-then-text-gt-TEXT_LIMIT c = list_long _ _ _ _ _ _ _ _ _ _ _ _ _ _ _ c.header_onto-head.ensures c.if-text-gt-TEXT_LIMIT.true (no_part _ _ _ _ _ _ _ _ refl c.if-part-eq0.false)

pub returns : goal.returns
returns c = list_run _ _ _ _ _ _ _ _ _ _ _ _ _ _ _ c.header_onto-head.ensures c.if-text-gt-TEXT_LIMIT.false c.run_onto.ensures
