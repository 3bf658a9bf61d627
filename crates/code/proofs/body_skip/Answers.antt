use Rattle.std.proofs.Common.{◌+◌, ap, sym, ◌∙◌, arith}
use Rattle.utf8.proofs.Laws.{seen}
use Rattle.utf8.specs.Laws.{ended}
use Rattle.utf8.specs.Picks.{flags}
use Rattle.scan.specs.declared.Sought.TheVariants.{Word}
use Rattle.scan.specs.Seek.{regex_skip, skip_more, up_to}
use Rattle.scan.specs.Passes.{regex_sound, sound_fits, upto_sound}
use Rattle.code.specs.Code.{body_skip}
use Rattle.code.proofs.body_skip.Goals as goal

pub overflow_add-at : goal.overflow_add-at
overflow_add-at c = omega (arith, (seen _ _ _ _ (sym c.in-Some.ensures)))

pub skip_more-requires : goal.skip_more-requires
skip_more-requires c = omega (arith, sound_fits c.args.s.now (c.args.at + c.in-Some.width) c.regex_skip.ensures (regex_sound _ _ _ _))

pub returns-then-code-eq-DOUBLE_QUOTE : goal.returns-then-code-eq-DOUBLE_QUOTE
unfolding body_skip
returns-then-code-eq-DOUBLE_QUOTE c = let h = (seen _ _ _ _ (sym c.in-Some.ensures)) in let g = c.skip_more.ensures ∙ ap (skip_more 1) (rw c.closing_hashes.ensures at c.regex_skip.ensures) in rw (h.next, ← h.width) (search flags)

pub overflow_add-at-then-is_identifier_start : goal.overflow_add-at-then-is_identifier_start
overflow_add-at-then-is_identifier_start c = omega (arith, (seen _ _ _ _ (sym c.in-Some.ensures)))

pub skip_more-requires-then-is_identifier_start : goal.skip_more-requires-then-is_identifier_start
skip_more-requires-then-is_identifier_start c = omega (arith, sound_fits c.args.s.now (c.args.at + c.in-Some.width) (c.up_to.ensures ∙ ap up_to c.word.ensures) (upto_sound Word _ _))

pub returns-then-is_identifier_start : goal.returns-then-is_identifier_start
unfolding body_skip
returns-then-is_identifier_start c = let h = (seen _ _ _ _ (sym c.in-Some.ensures)) in let g = c.skip_more-then-is_identifier_start.ensures ∙ ap (skip_more 1) (c.up_to.ensures ∙ ap up_to c.word.ensures) in rw (h.next, ← h.width) (search flags)

pub returns-else-is_identifier_start : goal.returns-else-is_identifier_start
unfolding body_skip
returns-else-is_identifier_start c = let h = (seen _ _ _ _ (sym c.in-Some.ensures)) in rw (h.next, ← h.width) (search flags)

pub returns-in-None : goal.returns-in-None
unfolding body_skip
returns-in-None c = rw (ended _ _ (sym c.in-None.ensures)).none c.lost-in-None.ensures
