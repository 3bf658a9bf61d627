use Rattle.std.proofs.Common.{arith, sym, ◌∙◌}
use Rattle.utf8.proofs.Laws.{seen}
use Rattle.utf8.specs.Laws.{ended}
use Rattle.escapes.specs.Escapes.{ascii_escape}
use Rattle.escapes.proofs.apply_ascii_char_escape.Goals as goal

pub returns-in_default : goal.returns-in_default
unfolding ascii_escape
returns-in_default c = rw (ended _ _ (sym c.char_at.ensures ∙ c.in_default.is)).none

pub overflow_add-x-3 : goal.overflow_add-x-3
overflow_add-x-3 c =
    let a = seen _ _ _ _ (sym c.char_at.ensures ∙ c.in-Some.is) in
    omega (arith, a.room)

pub returns-in_default-char_at : goal.returns-in_default-char_at
unfolding ascii_escape
returns-in_default-char_at c =
    let a = seen _ _ _ _ (sym c.char_at.ensures ∙ c.in-Some.is) in
    rw a.next (rw (ended _ _ (sym c.char_at-2.ensures ∙ c.in_default-char_at.is)).none)

pub returns-then-high-low : goal.returns-then-high-low
unfolding ascii_escape
returns-then-high-low c =
    let a = seen _ _ _ _ (sym c.char_at.ensures ∙ c.in-Some.is) in
    let b = seen _ _ _ _ (sym c.char_at-2.ensures ∙ c.in-Some-char_at.is) in
    rw a.next (rw b.next (rw (← c.digit-high.ensures, ← c.digit-low.ensures, c.if-high-low.true)))

pub returns : goal.returns
unfolding ascii_escape
returns c =
    let a = seen _ _ _ _ (sym c.char_at.ensures ∙ c.in-Some.is) in
    let b = seen _ _ _ _ (sym c.char_at-2.ensures ∙ c.in-Some-char_at.is) in
    rw a.next (rw b.next (rw (← c.digit-high.ensures, ← c.digit-low.ensures, c.if-high-low.false)))
