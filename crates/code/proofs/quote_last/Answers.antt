use Rattle.std.proofs.Common.{sym, ◌∙◌}
use Rattle.code.specs.Laws.{last-kept, last_old}
use Rattle.code.proofs.quote_last.Goals as goal

pub returns-in-Old : goal.returns-in-Old
returns-in-Old c = rw c.in-Old.is (c.lost.ensures ∙ sym (last_old _ _ _))

pub returns-in-Kept : goal.returns-in-Kept
returns-in-Kept c = rw c.in-Kept.is (sym (last-kept _ _ _))
