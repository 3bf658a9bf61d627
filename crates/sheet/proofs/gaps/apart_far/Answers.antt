use Rattle.std.proofs.Common.{◌≡◌, ℕ, List, ◌+◌, ◌-◌, ◌≤◌, sym, ap, ◌∙◌, arith, drop}
use Rattle.utf8.proofs.Laws.{seen}
use Rattle.utf8.specs.Laws.{ended}
use Rattle.scan.specs.Deepens.{depth-end, depth-stop}
use Rattle.scan.specs.Depth.{deeper}
use Rattle.scan.specs.Far.{lands}
use Rattle.scan.specs.Runs.{run}
use Rattle.scan.specs.Turns.{walk_end, walk-fail, walk-stop}
use Rattle.reading.specs.Gaps.{gap_last, gap_turn}
use Rattle.reading.specs.Steps.{gap-fail, gap_pass, gap_stop}
use Rattle.sheet.proofs.Telling.{Reached, passed_comment, passed_white, spaced, start, told_lost, told_past}
use Rattle.sheet.proofs.gaps.apart_far.Goals as goal

-- after a turn's run: the whitespace so far, and what is reached there
ran : (s : List ℕ) (from at white comment deep to : ℕ) → to ≡ at + run gap_stop (drop at s) → (white + comment + from ≤ at) × Reached s from at white comment deep
    → (white + (to - at) + comment + from ≤ to) × Reached s from to (white + (to - at)) comment deep
ran s from at white comment deep to e i = (omega (arith, i.0), spaced _ _ _ _ _ _ _ e i.1)

pub loop-code-init : goal.loop-code-init
loop-code-init c =
    (omega arith, start _ _)

pub overflow_sub-white : goal.overflow_sub-white
overflow_sub-white c =
    omega (arith, c.gap_run-to.ensures)

pub overflow_add-white : goal.overflow_add-white
overflow_add-white c =
    omega (arith, c.gap_run-to.ensures)

pub overflow_add-at : goal.overflow_add-at
overflow_add-at c =
    omega (arith, seen _ _ _ _ (sym c.in-Some.ensures))

pub returns-in-Stop : goal.returns-in-Stop
returns-in-Stop c =
    let l = c.loop-code in
    let i = ran c.args.s.now c.args.from l.at l.white l.comment l.deep _ c.gap_run-to.ensures l.invariant in
    let h = seen _ _ _ _ (sym c.in-Some.ensures) in
    let e = sym c.gap_turn-x.ensures.0 ∙ c.in-Stop.is in
    told_past i.1 (walk-stop gap_turn gap_last h 0 _ e) (depth-stop gap_turn h 0 _ e)

pub overflow_add-result : goal.overflow_add-result
overflow_add-result c =
    let l = c.loop-code in
    let i = ran c.args.s.now c.args.from l.at l.white l.comment l.deep _ c.gap_run-to.ensures l.invariant in
    omega (arith, i.0, seen _ _ _ _ (sym c.in-Some.ensures))

pub overflow_add-result-in-Fail : goal.overflow_add-result-in-Fail
overflow_add-result-in-Fail c =
    let l = c.loop-code in
    let i = ran c.args.s.now c.args.from l.at l.white l.comment l.deep _ c.gap_run-to.ensures l.invariant in
    omega (arith, i.0, seen _ _ _ _ (sym c.in-Some.ensures))

pub overflow_add-result-in-Fail-2 : goal.overflow_add-result-in-Fail-2
overflow_add-result-in-Fail-2 c =
    let l = c.loop-code in
    let i = ran c.args.s.now c.args.from l.at l.white l.comment l.deep _ c.gap_run-to.ensures l.invariant in
    let h = seen _ _ _ _ (sym c.in-Some.ensures) in
    let f = lands _ _ _ _ (gap-fail _ _ _ _ _ _ _ _ (sym c.gap_turn-x.ensures.0 ∙ c.in-Fail.is)) in
    omega (arith, i.0, f.room h.room, f.gone)

pub returns-in-Fail : goal.returns-in-Fail
returns-in-Fail c =
    let l = c.loop-code in
    let i = ran c.args.s.now c.args.from l.at l.white l.comment l.deep _ c.gap_run-to.ensures l.invariant in
    let h = seen _ _ _ _ (sym c.in-Some.ensures) in
    told_lost i.1 (walk-fail gap_turn gap_last h 0 _ (sym c.gap_turn-x.ensures.0 ∙ c.in-Fail.is))

pub overflow_add-comment : goal.overflow_add-comment
overflow_add-comment c =
    let l = c.loop-code in
    let i = ran c.args.s.now c.args.from l.at l.white l.comment l.deep _ c.gap_run-to.ensures l.invariant in
    omega (arith, i.0, seen _ _ _ _ (sym c.in-Some.ensures))

pub overflow_add-comment-then-code-eq-SLASH : goal.overflow_add-comment-then-code-eq-SLASH
overflow_add-comment-then-code-eq-SLASH c =
    let l = c.loop-code in
    let i = ran c.args.s.now c.args.from l.at l.white l.comment l.deep _ c.gap_run-to.ensures l.invariant in
    let h = seen _ _ _ _ (sym c.in-Some.ensures) in
    let f = lands _ _ _ _ (gap_pass _ _ _ _ _ _ _ _ (sym c.gap_turn-x.ensures.0 ∙ c.in-Pass.is)) in
    omega (arith, i.0, h, f.room h.room, f.gone)

pub loop-code-smaller-then-code-eq-SLASH : goal.loop-code-smaller-then-code-eq-SLASH
loop-code-smaller-then-code-eq-SLASH c =
    let h = seen _ _ _ _ (sym c.in-Some.ensures) in
    let f = lands _ _ _ _ (gap_pass _ _ _ _ _ _ _ _ (sym c.gap_turn-x.ensures.0 ∙ c.in-Pass.is)) in
    omega (arith, c.gap_run-to.ensures, h, f.room h.room, f.gone)

pub loop-code-preserved-then-code-eq-SLASH : goal.loop-code-preserved-then-code-eq-SLASH
loop-code-preserved-then-code-eq-SLASH c =
    let l = c.loop-code in
    let i = ran c.args.s.now c.args.from l.at l.white l.comment l.deep _ c.gap_run-to.ensures l.invariant in
    let h = seen _ _ _ _ (sym c.in-Some.ensures) in
    let f = lands _ _ _ _ (gap_pass _ _ _ _ _ _ _ _ (sym c.gap_turn-x.ensures.0 ∙ c.in-Pass.is)) in
    let d = c.deeper-deep.ensures ∙ ap (deeper l.deep) c.gap_turn-x.ensures.1 in
    (omega (arith, i.0, h, f.room h.room, f.gone), passed_comment i.1 h (sym c.gap_turn-x.ensures.0 ∙ c.in-Pass.is) c.if-code-eq-SLASH.true _ d)

pub overflow_add-white-else-code-eq-SLASH : goal.overflow_add-white-else-code-eq-SLASH
overflow_add-white-else-code-eq-SLASH c =
    let l = c.loop-code in
    let i = ran c.args.s.now c.args.from l.at l.white l.comment l.deep _ c.gap_run-to.ensures l.invariant in
    omega (arith, i.0, seen _ _ _ _ (sym c.in-Some.ensures))

pub loop-code-smaller : goal.loop-code-smaller
loop-code-smaller c =
    let h = seen _ _ _ _ (sym c.in-Some.ensures) in
    let f = lands _ _ _ _ (gap_pass _ _ _ _ _ _ _ _ (sym c.gap_turn-x.ensures.0 ∙ c.in-Pass.is)) in
    omega (arith, c.gap_run-to.ensures, h, f.room h.room, f.gone)

pub loop-code-preserved : goal.loop-code-preserved
loop-code-preserved c =
    let l = c.loop-code in
    let i = ran c.args.s.now c.args.from l.at l.white l.comment l.deep _ c.gap_run-to.ensures l.invariant in
    let h = seen _ _ _ _ (sym c.in-Some.ensures) in
    let f = lands _ _ _ _ (gap_pass _ _ _ _ _ _ _ _ (sym c.gap_turn-x.ensures.0 ∙ c.in-Pass.is)) in
    (omega (arith, i.0, h, f.room h.room, f.gone), passed_white i.1 h (sym c.gap_turn-x.ensures.0 ∙ c.in-Pass.is) c.if-code-eq-SLASH.false)

pub returns-in-None : goal.returns-in-None
returns-in-None c =
    let l = c.loop-code in
    let i = ran c.args.s.now c.args.from l.at l.white l.comment l.deep _ c.gap_run-to.ensures l.invariant in
    let e = ended _ _ (sym c.in-None.ensures) in
    told_past i.1 (walk_end gap_turn gap_last e 0 _) (depth-end gap_turn e 0 _)
