use Rattle.std.proofs.Common.{◌≡◌, ℕ, List, ◌+◌, ◌-◌, ◌≤◌, sym, ◌∙◌, refl, arith, drop}
use Rattle.utf8.proofs.Laws.{seen}
use Rattle.utf8.specs.Laws.{ended}
use Rattle.utf8.specs.Utf8.{chars}
use Rattle.scan.specs.Far.{lands}
use Rattle.scan.specs.Turns.{walk_end, walk-fail, walk_pass, walk-stop}
use Rattle.scan.specs.Walk.{walk_from}
use Rattle.reading.specs.Attribute.{attribute_last, attribute_turn}
use Rattle.reading.specs.Passes.{attribute_balance, attribute_good}
use Rattle.reading.specs.Sights.{attribute_run_lem, attribute_stop, balance_pass, good_fail, good_pass}
use Rattle.scan.specs.Runs.{run}
use Rattle.tok.proofs.attribute.body_end.Invariants.{Inv}
use Rattle.tok.proofs.attribute.body_end.Goals as goal

-- after a turn's run
ran : (s : List ℕ) (from at n b to : ℕ) → to ≡ at + run attribute_stop (drop at s) → Inv s from at n b → Inv s from to (n + (to - at)) b
ran s from at n b to e i = (omega arith, omega arith, attribute_run_lem s b at to n e ∙ i.2)

pub loop-code-init : goal.loop-code-init
loop-code-init c = (omega arith, omega arith, refl)

pub overflow_sub-n : goal.overflow_sub-n
overflow_sub-n c = omega (arith, c.attribute_run-to.ensures)

pub overflow_add-n : goal.overflow_add-n
overflow_add-n c = omega (arith, c.attribute_run-to.ensures)

pub overflow_add-at : goal.overflow_add-at
overflow_add-at c = omega (arith, seen _ _ _ _ (sym c.in-Some.ensures))

pub attribute_turn-requires : goal.attribute_turn-requires
attribute_turn-requires c =
    let l = c.loop-code in
    let i = ran c.args.s.now c.args.from l.at l.n l.b _ c.attribute_run-to.ensures l.invariant in
    omega (arith, seen _ _ _ _ (sym c.in-Some.ensures))

pub returns-in-Stop : goal.returns-in-Stop
returns-in-Stop c =
    let l = c.loop-code in
    let i = ran c.args.s.now c.args.from l.at l.n l.b _ c.attribute_run-to.ensures l.invariant in
    sym (walk-stop attribute_turn attribute_last (seen _ _ _ _ (sym c.in-Some.ensures)) _ _ (sym c.in-Stop.ensures)) ∙ i.2

pub overflow_add-result : goal.overflow_add-result
overflow_add-result c =
    let l = c.loop-code in
    let i = ran c.args.s.now c.args.from l.at l.n l.b _ c.attribute_run-to.ensures l.invariant in
    let h = seen _ _ _ _ (sym c.in-Some.ensures) in
    let f = lands _ _ _ _ (good_fail (attribute_good _ _ _ _ _) (sym c.in-Fail.ensures)) in
    omega (arith, f.room h.room, f.gone)

pub overflow_add-result-in-Fail : goal.overflow_add-result-in-Fail
overflow_add-result-in-Fail c =
    let l = c.loop-code in
    let i = ran c.args.s.now c.args.from l.at l.n l.b _ c.attribute_run-to.ensures l.invariant in
    let h = seen _ _ _ _ (sym c.in-Some.ensures) in
    let f = lands _ _ _ _ (good_fail (attribute_good _ _ _ _ _) (sym c.in-Fail.ensures)) in
    omega (arith, f.room h.room, f.gone)

pub returns-in-Fail : goal.returns-in-Fail
returns-in-Fail c =
    let l = c.loop-code in
    let i = ran c.args.s.now c.args.from l.at l.n l.b _ c.attribute_run-to.ensures l.invariant in
    sym (walk-fail attribute_turn attribute_last (seen _ _ _ _ (sym c.in-Some.ensures)) _ _ (sym c.in-Fail.ensures)) ∙ i.2

pub overflow_add-n-in-Pass : goal.overflow_add-n-in-Pass
overflow_add-n-in-Pass c =
    let l = c.loop-code in
    let i = ran c.args.s.now c.args.from l.at l.n l.b _ c.attribute_run-to.ensures l.invariant in
    omega (arith, seen _ _ _ _ (sym c.in-Some.ensures))

pub overflow_add-n-in-Pass-2 : goal.overflow_add-n-in-Pass-2
overflow_add-n-in-Pass-2 c =
    let l = c.loop-code in
    let i = ran c.args.s.now c.args.from l.at l.n l.b _ c.attribute_run-to.ensures l.invariant in
    let h = seen _ _ _ _ (sym c.in-Some.ensures) in
    let f = lands _ _ _ _ (good_pass (attribute_good _ _ _ _ _) (sym c.in-Pass.ensures)) in
    omega (arith, f.room h.room, f.gone)

pub loop-code-smaller : goal.loop-code-smaller
loop-code-smaller c =
    let h = seen _ _ _ _ (sym c.in-Some.ensures) in
    let f = lands _ _ _ _ (good_pass (attribute_good _ _ _ _ _) (sym c.in-Pass.ensures)) in
    let l = c.attribute_run-to.ensures in
    omega (arith, f.room h.room, f.gone)

pub loop-code-preserved : goal.loop-code-preserved
loop-code-preserved c =
    let l = c.loop-code in
    let i = ran c.args.s.now c.args.from l.at l.n l.b _ c.attribute_run-to.ensures l.invariant in
    let h = seen _ _ _ _ (sym c.in-Some.ensures) in
    let f = lands _ _ _ _ (good_pass (attribute_good _ _ _ _ _) (sym c.in-Pass.ensures)) in
    let g = f.gone in
    let b = balance_pass (attribute_balance _ _ _ _ _) (sym c.in-Pass.ensures) in
    (omega arith, omega arith, sym (walk_pass attribute_turn attribute_last h _ _ (sym c.in-Pass.ensures) f) ∙ i.2)

pub returns-in-None : goal.returns-in-None
returns-in-None c =
    let l = c.loop-code in
    let i = ran c.args.s.now c.args.from l.at l.n l.b _ c.attribute_run-to.ensures l.invariant in
    sym (walk_end attribute_turn attribute_last (ended _ _ (sym c.in-None.ensures)) _ _) ∙ i.2
