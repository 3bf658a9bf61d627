use Rattle.std.proofs.Common.{◌≡◌, ℕ, List, ◌+◌, ◌-◌, sym, ap, ◌∙◌, refl, arith, drop}
use Rattle.utf8.proofs.Laws.{seen}
use Rattle.utf8.specs.Laws.{ended}
use Rattle.scan.specs.Deepens.{depth-end, depth-fail, depth_pass, depth-stop}
use Rattle.scan.specs.Depth.{deeper, depth_from}
use Rattle.scan.specs.Far.{lands}
use Rattle.scan.specs.Runs.{run}
use Rattle.scan.specs.Turns.{walk_end, walk-fail, walk_pass, walk-stop}
use Rattle.reading.specs.Gaps.{gap, gap_last, gap_turn}
use Rattle.reading.proofs.Steps.{gap-run, level_run}
use Rattle.reading.specs.Steps.{gap-fail, gap_level, gap_pass, gap-state, gap_stop}
use Rattle.tok.proofs.gaps.gap_far.Invariants.{Inv}
use Rattle.tok.proofs.gaps.gap_far.Goals as goal

-- after a turn's run
ran : (s : List ℕ) (from at n deep to : ℕ) → to ≡ at + run gap_stop (drop at s) → Inv s from at n deep → Inv s from to (n + (to - at)) deep
ran s from at n deep to e i = (omega arith, gap-run _ _ _ _ e ∙ i.1, level_run _ _ _ _ e ∙ i.2)

pub loop-code-init : goal.loop-code-init
unfolding gap
loop-code-init c =
    (omega arith, refl, refl)

pub overflow_sub-n : goal.overflow_sub-n
overflow_sub-n c =
    omega (arith, c.gap_run-to.ensures)

pub overflow_add-n : goal.overflow_add-n
overflow_add-n c =
    omega (arith, c.gap_run-to.ensures)

pub overflow_add-at : goal.overflow_add-at
overflow_add-at c =
    omega (arith, seen _ _ _ _ (sym c.in-Some.ensures))

pub returns-in-Stop : goal.returns-in-Stop
returns-in-Stop c =
    let l = c.loop-code in
    let i = ran c.args.s.now c.args.from l.at l.n l.deep _ c.gap_run-to.ensures l.invariant in
    let h = seen _ _ _ _ (sym c.in-Some.ensures) in
    let e = sym c.gap_turn-x.ensures.0 ∙ c.in-Stop.is in
    (sym (walk-stop gap_turn gap_last h 0 _ e) ∙ i.1, sym (depth-stop gap_turn h 0 _ e) ∙ i.2)

pub overflow_add-result : goal.overflow_add-result
overflow_add-result c =
    let l = c.loop-code in
    let i = ran c.args.s.now c.args.from l.at l.n l.deep _ c.gap_run-to.ensures l.invariant in
    let h = seen _ _ _ _ (sym c.in-Some.ensures) in
    let f = lands _ _ _ _ (gap-fail _ _ _ _ _ _ _ _ (sym c.gap_turn-x.ensures.0 ∙ c.in-Fail.is)) in
    omega (arith, f.room h.room, f.gone)

pub overflow_add-result-in-Fail : goal.overflow_add-result-in-Fail
overflow_add-result-in-Fail c =
    let l = c.loop-code in
    let i = ran c.args.s.now c.args.from l.at l.n l.deep _ c.gap_run-to.ensures l.invariant in
    let h = seen _ _ _ _ (sym c.in-Some.ensures) in
    let f = lands _ _ _ _ (gap-fail _ _ _ _ _ _ _ _ (sym c.gap_turn-x.ensures.0 ∙ c.in-Fail.is)) in
    omega (arith, f.room h.room, f.gone)

pub returns-in-Fail : goal.returns-in-Fail
returns-in-Fail c =
    let l = c.loop-code in
    let i = ran c.args.s.now c.args.from l.at l.n l.deep _ c.gap_run-to.ensures l.invariant in
    let h = seen _ _ _ _ (sym c.in-Some.ensures) in
    let e = sym c.gap_turn-x.ensures.0 ∙ c.in-Fail.is in
    (sym (walk-fail gap_turn gap_last h 0 _ e) ∙ i.1, sym (depth-fail gap_turn h 0 _ e) ∙ i.2)

pub overflow_add-n-in-Pass : goal.overflow_add-n-in-Pass
overflow_add-n-in-Pass c =
    let l = c.loop-code in
    let i = ran c.args.s.now c.args.from l.at l.n l.deep _ c.gap_run-to.ensures l.invariant in
    omega (arith, seen _ _ _ _ (sym c.in-Some.ensures))

pub overflow_add-n-in-Pass-2 : goal.overflow_add-n-in-Pass-2
overflow_add-n-in-Pass-2 c =
    let l = c.loop-code in
    let i = ran c.args.s.now c.args.from l.at l.n l.deep _ c.gap_run-to.ensures l.invariant in
    let h = seen _ _ _ _ (sym c.in-Some.ensures) in
    let f = lands _ _ _ _ (gap_pass _ _ _ _ _ _ _ _ (sym c.gap_turn-x.ensures.0 ∙ c.in-Pass.is)) in
    omega (arith, f.room h.room, f.gone)

pub loop-code-smaller : goal.loop-code-smaller
loop-code-smaller c =
    let h = seen _ _ _ _ (sym c.in-Some.ensures) in
    let f = lands _ _ _ _ (gap_pass _ _ _ _ _ _ _ _ (sym c.gap_turn-x.ensures.0 ∙ c.in-Pass.is)) in
    let l = c.gap_run-to.ensures in
    omega (arith, f.room h.room, f.gone)

pub loop-code-preserved : goal.loop-code-preserved
loop-code-preserved c =
    let l = c.loop-code in
    let i = ran c.args.s.now c.args.from l.at l.n l.deep _ c.gap_run-to.ensures l.invariant in
    let h = seen _ _ _ _ (sym c.in-Some.ensures) in
    let f = lands _ _ _ _ (gap_pass _ _ _ _ _ _ _ _ (sym c.gap_turn-x.ensures.0 ∙ c.in-Pass.is)) in
    let g = f.gone in
    let e = sym c.gap_turn-x.ensures.0 ∙ c.in-Pass.is in
    let d = l.deep in (
      omega arith,
      gap-state 0 _ 0 _ _ _ ∙ sym (walk_pass gap_turn gap_last h 0 _ e f) ∙ i.1,
      ap (depth_from gap_turn 0 _ 0 _) (c.deeper-deep.ensures ∙ ap (deeper d) c.gap_turn-x.ensures.1) ∙ gap_level 0 _ 0 _ _ _ ∙ sym (depth_pass gap_turn h 0 d e f) ∙ i.2,
    )

pub returns-in-None : goal.returns-in-None
returns-in-None c =
    let l = c.loop-code in
    let i = ran c.args.s.now c.args.from l.at l.n l.deep _ c.gap_run-to.ensures l.invariant in
    let e = ended _ _ (sym c.in-None.ensures) in
    (sym (walk_end gap_turn gap_last e 0 _) ∙ i.1, sym (depth-end gap_turn e 0 _) ∙ i.2)
