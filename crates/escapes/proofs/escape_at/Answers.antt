use Rattle.std.proofs.Common.{◌≡◌, arith, sym, ap, ◌∙◌, add_assoc}
use Rattle.utf8.specs.Utf8.{width_of}
use Rattle.utf8.specs.Picks.{picks}
use Rattle.utf8.proofs.Laws.{seen}
use Rattle.utf8.specs.Laws.{ended}
use Rattle.escapes.specs.Escapes.{escape}
use Rattle.escapes.proofs.escape_at.Goals as goal

pub returns-in_default : goal.returns-in_default
unfolding escape
returns-in_default c = rw (ended _ _ (sym c.char_at.ensures ∙ c.in_default.is)).none

pub apply_ascii_char_escape-requires : goal.apply_ascii_char_escape-requires
apply_ascii_char_escape-requires c = let h = seen _ _ _ _ (sym c.char_at.ensures ∙ c.in-Some.is) in (omega (arith, h.room), c.requires.1)

pub returns-in-92 : goal.returns-in-92
unfolding escape
returns-in-92 c = let h = seen _ _ _ _ (sym c.char_at.ensures ∙ c.in-Some.is) in rw (h.next, c.in-92.is)

pub returns-in-34 : goal.returns-in-34
unfolding escape
returns-in-34 c = let h = seen _ _ _ _ (sym c.char_at.ensures ∙ c.in-Some.is) in rw (h.next, c.in-34.is)

pub returns-in-110 : goal.returns-in-110
unfolding escape
returns-in-110 c = let h = seen _ _ _ _ (sym c.char_at.ensures ∙ c.in-Some.is) in rw (h.next, c.in-110.is)

pub returns-in-114 : goal.returns-in-114
unfolding escape
returns-in-114 c = let h = seen _ _ _ _ (sym c.char_at.ensures ∙ c.in-Some.is) in rw (h.next, c.in-114.is)

pub returns-in-116 : goal.returns-in-116
unfolding escape
returns-in-116 c = let h = seen _ _ _ _ (sym c.char_at.ensures ∙ c.in-Some.is) in rw (h.next, c.in-116.is)

pub returns-in-48 : goal.returns-in-48
unfolding escape
returns-in-48 c = let h = seen _ _ _ _ (sym c.char_at.ensures ∙ c.in-Some.is) in rw (h.next, c.in-48.is)

pub returns-in-120 : goal.returns-in-120
unfolding escape width_of
returns-in-120 c =
    let h = seen _ _ _ _ (sym c.char_at.ensures ∙ c.in-Some.is) in
    let w : _ ≡ 1 = h.width ∙ ap width_of c.in-120.is in
    let e = rw (← (add_assoc c.args.idx0 c.args.i 1)) at c.apply_ascii_char_escape.ensures in
    rw (h.next, w, c.in-120.is) e

pub returns-in_default-c : goal.returns-in_default-c
unfolding escape
returns-in_default-c c = let h = seen _ _ _ _ (sym c.char_at.ensures ∙ c.in-Some.is) in rw h.next (search picks depth 10)
