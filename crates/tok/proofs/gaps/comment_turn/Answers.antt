use Rattle.std.proofs.Common.{sym, ap, ◌∙◌, arith}
use Rattle.utf8.proofs.Laws.{seen}
use Rattle.utf8.specs.Laws.{ended}
use Rattle.utf8.specs.Picks.{picks}
use Rattle.scan.specs.Deepens.{slash_deep, slash_flat}
use Rattle.scan.specs.Seek.{up_to}
use Rattle.scan.specs.Walk.{turn_of}
use Rattle.reading.specs.Steps.{comment_end_lem, comment_on}
use Rattle.tok.proofs.gaps.comment_turn.Goals as goal

pub returns-then-code-eq-SLASH : goal.returns-then-code-eq-SLASH
returns-then-code-eq-SLASH c =
    let h = c.flat.ensures.0 ∙ c.to_turn.ensures ∙ ap (turn_of 0) (c.up_to-line.ensures ∙ ap up_to c.take_until.ensures) in
    let k = (seen _ _ _ _ (sym c.in-Some.ensures)) in
    (rw (comment_on _ k) (search picks), rw (slash_deep k, c.if-code-eq-SLASH.true) c.flat.ensures.1)

pub overflow_add-at : goal.overflow_add-at
overflow_add-at c = omega (arith, (seen _ _ _ _ (sym c.in-Some.ensures)))

pub returns-then-code-eq-STAR : goal.returns-then-code-eq-STAR
returns-then-code-eq-STAR c =
    let t = c.block_turn.ensures.0 in
    let d = c.block_turn.ensures.1 in
    (rw (comment_on _ (seen _ _ _ _ (sym c.in-Some.ensures))) (search picks), rw (slash_deep (seen _ _ _ _ (sym c.in-Some.ensures))) (search picks))

pub returns-else-code-eq-STAR : goal.returns-else-code-eq-STAR
returns-else-code-eq-STAR c =
    let t = c.flat-in-Some.ensures.0 in
    let d = c.flat-in-Some.ensures.1 in
    let k = (seen _ _ _ _ (sym c.in-Some.ensures)) in
    (rw (comment_on c.args.o k) (search picks), rw (slash_deep k) (search picks))

pub returns-in-None : goal.returns-in-None
returns-in-None c =
    let e = ended _ _ (sym c.in-None.ensures) in
    (c.flat-in-None.ensures.0 ∙ sym (comment_end_lem _ e), c.flat-in-None.ensures.1 ∙ sym (slash_flat e))
