use Rattle.std.proofs.Common.{refl}
use Rattle.table.specs.Table.{tenths}
use Rattle.utf8.specs.Picks.{pick_eq, pick_ne}
use Rattle.table.proofs.tenths.Goals as goal

pub returns-then-all-eq0 : goal.returns-then-all-eq0
unfolding tenths
returns-then-all-eq0 c = pick_eq _ _ _ _ _ c.if-all-eq0.true refl

pub returns : goal.returns
unfolding tenths
returns c = pick_ne _ _ _ _ _ c.if-all-eq0.false refl
