use Rattle.std.proofs.Common.{sym, ◌∙◌}
use Rattle.utf8.proofs.Laws.{seen}
use Rattle.utf8.specs.Laws.{ended}
use Rattle.utf8.specs.Picks.{flags}
use Rattle.reading.specs.Sights.{lifetimeish-end, lifetimeish-on}
use Rattle.words.proofs.quotes.lifetimeish.Goals as goal

pub returns-then-is_identifier_start : goal.returns-then-is_identifier_start
returns-then-is_identifier_start c = rw (lifetimeish-on _ (seen _ _ _ _ (sym c.in-Some.ensures))) (search flags)

pub returns-else-is_identifier_start : goal.returns-else-is_identifier_start
returns-else-is_identifier_start c = rw (lifetimeish-on _ (seen _ _ _ _ (sym c.in-Some.ensures))) (search flags)

pub returns-in-None : goal.returns-in-None
returns-in-None c = c.refuse.ensures ∙ sym (lifetimeish-end _ (ended _ _ (sym c.in-None.ensures)))
