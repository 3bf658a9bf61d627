use Rattle.std.proofs.Common.{◌+◌, ap, sym, ◌∙◌, arith}
use Rattle.utf8.proofs.Laws.{seen}
use Rattle.utf8.specs.Laws.{ended}
use Rattle.utf8.specs.Picks.{picks}
use Rattle.reading.specs.Attribute.{advances_of, attempt_more, attempt_bracket}
use Rattle.tok.specs.Fits.{body_most}
use Rattle.tok.proofs.attribute.attempt_bracket.Goals as goal

pub overflow_add-at : goal.overflow_add-at
overflow_add-at c = omega (arith, (seen _ _ _ _ (sym c.in-Some.ensures)))

pub one_more-requires : goal.one_more-requires
one_more-requires c = omega (arith, ap advances_of c.attempt_body.ensures, body_most c.args.s.now (c.args.at + c.in-Some.width))

pub returns-then-code-eq-LEFT_BRACKET : goal.returns-then-code-eq-LEFT_BRACKET
unfolding attempt_bracket
returns-then-code-eq-LEFT_BRACKET c = let h = (seen _ _ _ _ (sym c.in-Some.ensures)) in let e = c.one_more.ensures ∙ ap (attempt_more 1) c.attempt_body.ensures in rw (h.next, ← h.width) (search picks)

pub overflow_add-result : goal.overflow_add-result
overflow_add-result c = omega (arith, (seen _ _ _ _ (sym c.in-Some.ensures)))

pub returns-else-code-eq-LEFT_BRACKET : goal.returns-else-code-eq-LEFT_BRACKET
unfolding attempt_bracket
returns-else-code-eq-LEFT_BRACKET c = let h = (seen _ _ _ _ (sym c.in-Some.ensures)) in rw (h.next, ← h.width) (search picks)

pub returns-in-None : goal.returns-in-None
unfolding attempt_bracket
returns-in-None c = rw (ended _ _ (sym c.in-None.ensures)).none
