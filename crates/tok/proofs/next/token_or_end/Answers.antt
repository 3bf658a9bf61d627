use Rattle.std.proofs.Common.{sym, ◌∙◌, arith}
use Rattle.utf8.proofs.Laws.{seen}
use Rattle.utf8.specs.Laws.{ended}
use Rattle.reading.specs.Steps.{token_end, token-on}
use Rattle.tok.proofs.next.token_or_end.Goals as goal

pub overflow_add-o : goal.overflow_add-o
overflow_add-o c = omega (arith, (seen _ _ _ _ (sym c.in-Some.ensures)))

pub token-requires : goal.token-requires
token-requires c = (seen _ _ _ _ (sym c.in-Some.ensures)).next

pub returns-in-Some : goal.returns-in-Some
returns-in-Some c = c.token.ensures ∙ sym (token-on _ (seen _ _ _ _ (sym c.in-Some.ensures)))

pub returns-in-None : goal.returns-in-None
returns-in-None c = sym (token_end _ (ended _ _ (sym c.in-None.ensures)))
