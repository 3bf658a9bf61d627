use Rattle.std.proofs.Common.{◌+◌, ap, refl, sym, ◌∙◌, arith}
use Rattle.utf8.proofs.Laws.{seen}
use Rattle.utf8.specs.Laws.{ended}
use Rattle.utf8.specs.Picks.{picks}
use Rattle.reading.specs.Answers.{more}
use Rattle.reading.proofs.Calls.{arrow_code_fair}
use Rattle.reading.specs.Calls.{arrow_look_fair}
use Rattle.tok.specs.Fits.{fair_fits}
use Rattle.reading.specs.Sights.{arrow_end, arrow_on}
use Rattle.tok.proofs.symbols.right_arrow.Goals as goal

pub overflow_add-at : goal.overflow_add-at
overflow_add-at c = omega (arith, (seen _ _ _ _ (sym c.in-Some.ensures)))

pub more-requires : goal.more-requires
more-requires c = omega (arith, fair_fits c.args.s.now (c.args.at + c.in-Some.width) c.arrow_look.ensures (arrow_look_fair _ _ _))

pub returns-then-code-eq-AT : goal.returns-then-code-eq-AT
returns-then-code-eq-AT c = let e = c.more.ensures ∙ ap (more 1) c.arrow_look.ensures in rw (arrow_on _ _ (seen _ _ _ _ (sym c.in-Some.ensures))) (search picks)

pub overflow_add-at-then-code-eq-QUESTION : goal.overflow_add-at-then-code-eq-QUESTION
overflow_add-at-then-code-eq-QUESTION c = omega (arith, (seen _ _ _ _ (sym c.in-Some.ensures)))

pub more-requires-then-code-eq-QUESTION : goal.more-requires-then-code-eq-QUESTION
more-requires-then-code-eq-QUESTION c = omega (arith, fair_fits c.args.s.now (c.args.at + c.in-Some.width) c.arrow_code.ensures (arrow_code_fair _ _ _ _ _ refl))

pub returns-then-code-eq-QUESTION : goal.returns-then-code-eq-QUESTION
returns-then-code-eq-QUESTION c = let e = c.more-then-code-eq-QUESTION.ensures ∙ ap (more 1) c.arrow_code.ensures in rw (arrow_on _ _ (seen _ _ _ _ (sym c.in-Some.ensures))) (search picks)

pub returns-else-code-eq-QUESTION : goal.returns-else-code-eq-QUESTION
returns-else-code-eq-QUESTION c = rw (arrow_on _ _ (seen _ _ _ _ (sym c.in-Some.ensures))) (search picks)

pub returns-in-None : goal.returns-in-None
returns-in-None c = c.refuse.ensures ∙ sym (arrow_end _ _ (ended _ _ (sym c.in-None.ensures)))
