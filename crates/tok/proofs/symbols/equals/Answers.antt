use Rattle.std.proofs.Common.{◌+◌, ℕ, List, ap, refl, sym, ◌∙◌, arith}
use Rattle.utf8.specs.Chars.{'=, '>}
use Rattle.utf8.specs.Utf8.{width_of}
use Rattle.scan.specs.IfNext.{next-room, nexts}
use Rattle.reading.specs.Answers.{more}
use Rattle.reading.proofs.Calls.{arrow_fair}
use Rattle.tok.specs.Fits.{fair_fits, next-drop}
use Rattle.reading.specs.Symbols.{equals, right_arrow}
use Rattle.tok.proofs.symbols.equals.Goals as goal

pub overflow_add-at : goal.overflow_add-at
overflow_add-at c = omega (arith, next-room c.args.s.now c.args.at '= (sym c.is_next.ensures ∙ c.if-is_next.true))

pub returns-then-is_next : goal.returns-then-is_next
unfolding equals
returns-then-is_next c = search nexts

pub overflow_add-at-then-is_next-2 : goal.overflow_add-at-then-is_next-2
overflow_add-at-then-is_next-2 c = omega (arith, next-room c.args.s.now c.args.at '> (sym c.is_next-2.ensures ∙ c.if-is_next-2.true))

pub more-requires : goal.more-requires
more-requires c = omega (arith, fair_fits c.args.s.now (c.args.at + 1) c.right_arrow.ensures (arrow_fair _ _ _ _))

pub returns-then-is_next-2 : goal.returns-then-is_next-2
unfolding equals width_of
returns-then-is_next-2 c = let a = c.args in let d = next-drop a.s.now a.at '> refl (sym c.is_next-2.ensures ∙ c.if-is_next-2.true) in let e = c.more.ensures ∙ ap (more 1) (c.right_arrow.ensures ∙ ap (λ (l : List ℕ). right_arrow a.rd a.o l (a.at + 1)) (sym d)) in search nexts

pub returns : goal.returns
unfolding equals
returns c = search nexts
