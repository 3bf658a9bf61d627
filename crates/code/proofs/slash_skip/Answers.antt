use Rattle.std.proofs.Common.{ap, sym, ◌∙◌, arith}
use Rattle.utf8.proofs.Laws.{seen}
use Rattle.utf8.specs.Laws.{ended}
use Rattle.utf8.specs.Picks.{picks}
use Rattle.scan.specs.Deepens.{slash_deep, slash_flat}
use Rattle.scan.specs.Seek.{up_to}
use Rattle.code.specs.Laws.{slash_on, slash_end}
use Rattle.code.proofs.slash_skip.Goals as goal

pub returns-then-code-eq-SLASH : goal.returns-then-code-eq-SLASH
returns-then-code-eq-SLASH c =
    let h = c.flat.ensures.0 ∙ c.up_to.ensures ∙ ap up_to c.take_until.ensures in
    (rw (slash_on _ (seen _ _ _ _ (sym c.in-Some.ensures))) (search picks), rw (slash_deep (seen _ _ _ _ (sym c.in-Some.ensures)), c.if-code-eq-SLASH.true) c.flat.ensures.1)

pub overflow_add-at : goal.overflow_add-at
overflow_add-at c = omega (arith, (seen _ _ _ _ (sym c.in-Some.ensures)))

pub returns-then-code-eq-STAR : goal.returns-then-code-eq-STAR
returns-then-code-eq-STAR c =
    let h = c.block_skip.ensures.0 in
    let d = c.block_skip.ensures.1 in
    (rw (slash_on _ (seen _ _ _ _ (sym c.in-Some.ensures))) (search picks), rw (slash_deep (seen _ _ _ _ (sym c.in-Some.ensures))) (search picks))

pub returns-else-code-eq-STAR : goal.returns-else-code-eq-STAR
returns-else-code-eq-STAR c =
    let h = c.flat-in-Some.ensures.0 in
    let d = c.flat-in-Some.ensures.1 in
    (rw (slash_on _ (seen _ _ _ _ (sym c.in-Some.ensures))) (search picks), rw (slash_deep (seen _ _ _ _ (sym c.in-Some.ensures))) (search picks))

pub returns-in-None : goal.returns-in-None
returns-in-None c =
    let e = ended _ _ (sym c.in-None.ensures) in
    (c.flat-in-None.ensures.0 ∙ sym (slash_end _ e), c.flat-in-None.ensures.1 ∙ sym (slash_flat e))
