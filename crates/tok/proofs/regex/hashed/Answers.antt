use Rattle.std.proofs.Common.{◌+◌, sym, ap, ◌∙◌, arith}
use Rattle.utf8.proofs.Laws.{seen}
use Rattle.utf8.specs.Laws.{ended}
use Rattle.utf8.specs.Picks.{flags}
use Rattle.scan.specs.Until.{left}
use Rattle.reading.specs.Answers.{more}
use Rattle.reading.proofs.Calls.{identifier_fair}
use Rattle.reading.specs.Calls.{regex_fair}
use Rattle.tok.specs.Fits.{fair_fits}
use Rattle.reading.specs.Steps.{hashed-end, hashed-on}
use Rattle.tok.proofs.regex.hashed.Goals as goal

pub overflow_add-at : goal.overflow_add-at
overflow_add-at c = omega (arith, (seen _ _ _ _ (sym c.in-Some.ensures)))

pub more-requires : goal.more-requires
more-requires c = omega (arith, fair_fits c.args.s.now (c.args.at + c.in-Some.width) c.regex_token.ensures (regex_fair _ _ _ _))

pub returns-then-code-eq-DOUBLE_QUOTE : goal.returns-then-code-eq-DOUBLE_QUOTE
returns-then-code-eq-DOUBLE_QUOTE c = let h = c.more.ensures ∙ ap (more 1) c.regex_token.ensures in rw (hashed-on _ (left c.args.s.now c.args.o) c.args.o c.args.h (seen _ _ _ _ (sym c.in-Some.ensures))) (search flags)

pub overflow_add-at-then-is_identifier_start : goal.overflow_add-at-then-is_identifier_start
overflow_add-at-then-is_identifier_start c = omega (arith, (seen _ _ _ _ (sym c.in-Some.ensures)))

pub more-requires-then-is_identifier_start : goal.more-requires-then-is_identifier_start
more-requires-then-is_identifier_start c = omega (arith, fair_fits c.args.s.now (c.args.at + c.in-Some.width) c.identifierish.ensures (identifier_fair _ _ _ _ _))

pub returns-then-is_identifier_start : goal.returns-then-is_identifier_start
returns-then-is_identifier_start c = let h = c.more-then-is_identifier_start.ensures ∙ ap (more 1) c.identifierish.ensures in rw (hashed-on _ (left c.args.s.now c.args.o) c.args.o c.args.h (seen _ _ _ _ (sym c.in-Some.ensures))) (search flags)

pub returns-else-is_identifier_start : goal.returns-else-is_identifier_start
returns-else-is_identifier_start c = rw (hashed-on _ (left c.args.s.now c.args.o) c.args.o c.args.h (seen _ _ _ _ (sym c.in-Some.ensures))) (search flags)

pub returns-in-None : goal.returns-in-None
returns-in-None c = c.refuse-in-None.ensures ∙ sym (hashed-end _ _ _ _ (ended _ _ (sym c.in-None.ensures)))
