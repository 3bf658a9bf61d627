use Rattle.std.proofs.Common.{sym, ◌∙◌, true, false}
use Rattle.utf8.proofs.Laws.{seen}
use Rattle.utf8.specs.Laws.{ended}
use Rattle.scan.specs.IfNext.{next-on, next-end, flag}
use Rattle.scan.proofs.is_next.Goals as goal

pub returns-in-Some : goal.returns-in-Some
returns-in-Some c = sym (next-on _ true false (seen _ _ _ _ (sym c.in-Some.ensures)) ∙ flag _)

pub returns-in-None : goal.returns-in-None
returns-in-None c = sym (next-end _ true false (ended _ _ (sym c.in-None.ensures)))
