use Rattle.std.proofs.Common.{◌≡◌, ◌+◌, ◌-◌, ◌≤◌, ℕ, List, sym, ap, ◌∙◌, arith}
use Rattle.utf8.proofs.Laws.{seen}
use Rattle.utf8.specs.Laws.{ended}
use Rattle.scan.specs.declared.Com.{Com}
use Rattle.scan.specs.Until.{until-on, until-at, until_end}
use Rattle.scan.specs.Readers.{com_done, depth_of}
use Rattle.scan.specs.Steps.{com_depth}
use Rattle.scan.specs.Deepens.{com_run, com_run_lem, deepest-at, deepest-end, deepest-on, right_below}
use Rattle.scan.specs.Depth.{deeper, deepest}
use Rattle.scan.proofs.comment_end.Invariants.{Inv}
use Rattle.scan.proofs.comment_end.Goals as goal

-- after a turn's run
ran : (s : List ℕ) (from at n : ℕ) (st : Com) (most to : ℕ) → to ≡ com_run s at st → Inv s from at n st most
    → Inv s from to (n + (to - at)) st most × (at ≤ to)
ran s from at n st most to e i =
    let r = com_run_lem s at to st e in
    ((omega (arith, r.0, i.0), omega (arith, i.1), i.2, r.1 _ ∙ i.3, r.2 _ i.2 ∙ i.4), r.0)

pub overflow_sub-n : goal.overflow_sub-n
overflow_sub-n c =
    let l = c.loop-code in
    omega (arith, (ran c.args.s.now c.args.from l.at l.n l.st l.most _ c.com_run-to.ensures l.invariant).1)

pub overflow_add-n : goal.overflow_add-n
overflow_add-n c =
    let l = c.loop-code in
    omega (arith, (ran c.args.s.now c.args.from l.at l.n l.st l.most _ c.com_run-to.ensures l.invariant).0.0)

pub com_step-st-requires : goal.com_step-st-requires
com_step-st-requires c =
    let l = c.loop-code in
    let i = (ran c.args.s.now c.args.from l.at l.n l.st l.most _ c.com_run-to.ensures l.invariant).0 in
    omega (arith, seen _ _ _ _ (sym c.in-Some.ensures), i.0, i.1)

pub returns-then-com_done : goal.returns-then-com_done
returns-then-com_done c =
    let l = c.loop-code in
    let i = (ran c.args.s.now c.args.from l.at l.n l.st l.most _ c.com_run-to.ensures l.invariant).0 in
    let h = seen _ _ _ _ (sym c.in-Some.ensures) in
    (sym (until-at _ com_done h c.com_step-st.ensures c.com_done.ensures _ c.if-com_done.true) ∙ i.3, sym (deepest-at h _ c.com_step-st.ensures c.com_done.ensures _ c.if-com_done.true) ∙ i.4)

pub overflow_add-at : goal.overflow_add-at
overflow_add-at c = omega (arith, seen _ _ _ _ (sym c.in-Some.ensures))

pub overflow_add-n-in-Some : goal.overflow_add-n-in-Some
overflow_add-n-in-Some c =
    let l = c.loop-code in
    omega (arith, seen _ _ _ _ (sym c.in-Some.ensures), (ran c.args.s.now c.args.from l.at l.n l.st l.most _ c.com_run-to.ensures l.invariant).0.0)

pub loop-code-smaller : goal.loop-code-smaller
loop-code-smaller c =
    let l = c.loop-code in
    omega (arith, seen _ _ _ _ (sym c.in-Some.ensures), (ran c.args.s.now c.args.from l.at l.n l.st l.most _ c.com_run-to.ensures l.invariant).1)

pub loop-code-preserved : goal.loop-code-preserved
loop-code-preserved c =
    let l = c.loop-code in
    let i = (ran c.args.s.now c.args.from l.at l.n l.st l.most _ c.com_run-to.ensures l.invariant).0 in
    let h = seen _ _ _ _ (sym c.in-Some.ensures) in
    let e = c.com_step-st.ensures in
    let d = c.com_done.ensures in
    let z = c.if-com_done.false in
    let m = c.deeper-most.ensures ∙ ap (deeper l.most) c.depth_of.ensures in (
      omega (arith, h, i.0),
      omega (arith, i.1, com_depth l.st c.in-Some.code, ap depth_of e),
      rw m (right_below l.most _),
      sym (until-on _ com_done h e d _ z) ∙ i.3,
      ap (deepest _ _) m ∙ sym (deepest-on h l.st e d l.most z) ∙ i.4,
    )

pub returns-in-None : goal.returns-in-None
returns-in-None c =
    let l = c.loop-code in
    let i = (ran c.args.s.now c.args.from l.at l.n l.st l.most _ c.com_run-to.ensures l.invariant).0 in
    let e = ended _ _ (sym c.in-None.ensures) in
    (sym (until_end _ com_done e _ _) ∙ i.3, sym (deepest-end e _ _) ∙ i.4)
