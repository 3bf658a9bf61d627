use Rattle.std.proofs.Common.{rules, sym, ◌∙◌, ltb-false}
use Rattle.escapes.proofs.Place.{as_text, as_refused, no_room, has_room, as_written}
use Rattle.escapes.proofs.expand_into.Goals as goal

pub returns-then-not-has_backslash : goal.returns-then-not-has_backslash
returns-then-not-has_backslash c = as_text _ _ _ _ (sym c.has_backslash.ensures ∙ c.if-not-has_backslash.true)

pub returns-in_err-n : goal.returns-in_err-n
returns-in_err-n c =
    let a = c.args in
    let e = as_refused a.text.now a.idx0 a.buf.now a.place _ (sym c.has_backslash.ensures ∙ c.if-not-has_backslash.false)
    (sym c.measure.ensures ∙ c.in_err-n.was) in
    rw (← e.0) (search rules)

pub returns-then-beyond : goal.returns-then-beyond
returns-then-beyond c =
    no_room _ _ _ _ _ (sym c.has_backslash.ensures ∙ c.if-not-has_backslash.false) (sym c.measure.ensures ∙ c.in_ok-n.was)
    (sym c.beyond.ensures ∙ c.if-beyond.true)

pub write-requires : goal.write-requires
write-requires c =
    let a = c.args in
    let m = ltb-false _ _ (sym c.beyond.ensures ∙ c.if-beyond.false) in
    (c.requires, has_room a.text.now a.idx0 a.buf.now a.place _ (sym c.measure.ensures ∙ c.in_ok-n.was) m)

pub returns : goal.returns
returns c =
    let a = c.args in
    as_written a.text.now a.idx0 a.buf.now a.place _ _ (sym c.has_backslash.ensures ∙ c.if-not-has_backslash.false)
    (sym c.measure.ensures ∙ c.in_ok-n.was) (sym c.beyond.ensures ∙ c.if-beyond.false) c.write.ensures
