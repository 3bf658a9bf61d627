use Rattle.std.proofs.Common.{sym, ◌∙◌}
use Rattle.utf8.proofs.Laws.{seen}
use Rattle.utf8.specs.Laws.{ended}
use Rattle.code.specs.Laws.{end-last, end_passed}
use Rattle.code.proofs.quote_end.Goals as goal

pub returns-in-Some : goal.returns-in-Some
returns-in-Some c = rw (seen _ _ _ _ (sym c.in-Some.ensures)).next (sym (end_passed _ _ _ _ _ _))

pub returns-in-None : goal.returns-in-None
returns-in-None c = rw (ended _ _ (sym c.in-None.ensures)).none (c.quote_last.ensures ∙ sym (end-last _ _ _ _))
