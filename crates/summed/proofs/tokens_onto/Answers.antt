use Rattle.std.proofs.Common.{◌≡◌, ◌-◌, sym, ◌∙◌, arith, length, take, drop, take_all, length-drop}
use Rattle.summed.specs.Laws.{tokens-on, tokens-end}
use Rattle.summed.proofs.tokens_onto.Goals as goal

pub loop-left-preserved : goal.loop-left-preserved
loop-left-preserved c =
    let a = c.args in
    let l = c.loop-left in
    let t : take (length l.left.now - 5) (drop 5 l.left.now) ≡ drop 5 l.left.now = take_all _ _ (omega (arith, length-drop 5 l.left.now)) in
    rw (t, c.token_onto.ensures, c.saturating_sub-from.ensures, c.saturating_sub-to.ensures)
    (sym (tokens-on a.text.now a.shift 0 l.left.now l.row (omega arith)) ∙ l.invariant)

pub returns : goal.returns
returns c =
    let a = c.args in
    let l = c.loop-left in
    sym (tokens-end a.text.now a.shift 0 l.left.now l.row (omega arith)) ∙ l.invariant
