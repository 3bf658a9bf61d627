use Rattle.std.proofs.Common.{◌≤◌, ◌-◌, ◌+◌, ◌≡◌, sym, ap, ◌∙◌, arith, drop}
use Rattle.utf8.specs.Utf8.{chars}
use Rattle.utf8.proofs.Laws.{seen}
use Rattle.utf8.specs.Laws.{ended}
use Rattle.utf8.specs.Picks.{picks}
use Rattle.scan.specs.Deepens.{depth-end, depth-fail, depth_pass, depth-stop}
use Rattle.scan.specs.Depth.{deeper, depth_from}
use Rattle.scan.specs.Far.{Lands, lands}
use Rattle.scan.specs.Turns.{walk-stop, walk-fail, walk_pass, walk_end}
use Rattle.scan.specs.Walk.{walk_from}
use Rattle.code.specs.Code.{code_depth_of, code_end, code_last, code_turn}
use Rattle.code.specs.Laws.{code_pass, code-fail}
use Rattle.code.specs.Stops.{depth-run, walk-run}
use Rattle.code.proofs.code_by.Goals as goal

pub overflow_add-p : goal.overflow_add-p
overflow_add-p c = omega (arith, (seen _ _ _ _ (sym c.in-Some.ensures)))

pub turn-x-requires : goal.turn-x-requires
turn-x-requires c = omega (arith, (seen _ _ _ _ (sym c.in-Some.ensures)), ((let w : (c.loop-code.p ≤ c.code_run-to.result) × (walk_from (code_turn c.args.rd) (code_last c.args.start) 0 (chars (drop c.code_run-to.result c.args.s.now)) c.loop-code.b c.code_run-to.result (c.loop-code.n + (c.code_run-to.result - c.loop-code.p)) ≡ code_end c.args.rd c.args.start (chars (drop c.args.at c.args.s.now)) c.args.at) × (depth_from (code_turn c.args.rd) 0 (chars (drop c.code_run-to.result c.args.s.now)) c.loop-code.b c.code_run-to.result c.loop-code.deep ≡ code_depth_of c.args.rd (chars (drop c.args.at c.args.s.now)) c.args.at) = let e = rw c.requires at c.code_run-to.ensures in (omega arith, walk-run _ (code_last c.args.start) c.args.s.now c.loop-code.b c.loop-code.p c.code_run-to.result c.loop-code.n e ∙ c.loop-code.invariant.2, depth-run _ c.args.s.now c.loop-code.b c.loop-code.deep c.loop-code.p c.code_run-to.result e ∙ c.loop-code.invariant.3) in w)).0)

pub returns-in-Stop : goal.returns-in-Stop
returns-in-Stop c =
    let h = (seen _ _ _ _ (sym c.in-Some.ensures)) in
    let e = sym c.turn-x.ensures.0 ∙ c.in-Stop.is in
    let r = (let w : (c.loop-code.p ≤ c.code_run-to.result) × (walk_from (code_turn c.args.rd) (code_last c.args.start) 0 (chars (drop c.code_run-to.result c.args.s.now)) c.loop-code.b c.code_run-to.result (c.loop-code.n + (c.code_run-to.result - c.loop-code.p)) ≡ code_end c.args.rd c.args.start (chars (drop c.args.at c.args.s.now)) c.args.at) × (depth_from (code_turn c.args.rd) 0 (chars (drop c.code_run-to.result c.args.s.now)) c.loop-code.b c.code_run-to.result c.loop-code.deep ≡ code_depth_of c.args.rd (chars (drop c.args.at c.args.s.now)) c.args.at) = let e = rw c.requires at c.code_run-to.ensures in (omega arith, walk-run _ (code_last c.args.start) c.args.s.now c.loop-code.b c.loop-code.p c.code_run-to.result c.loop-code.n e ∙ c.loop-code.invariant.2, depth-run _ c.args.s.now c.loop-code.b c.loop-code.deep c.loop-code.p c.code_run-to.result e ∙ c.loop-code.invariant.3) in w) in
    (sym (walk-stop (code_turn _) _ h _ _ e) ∙ r.1, sym (depth-stop (code_turn _) h _ _ e) ∙ r.2)

pub overflow_add-result : goal.overflow_add-result
overflow_add-result c = omega (arith, (seen _ _ _ _ (sym c.in-Some.ensures)), ((let w : (c.loop-code.p ≤ c.code_run-to.result) × (walk_from (code_turn c.args.rd) (code_last c.args.start) 0 (chars (drop c.code_run-to.result c.args.s.now)) c.loop-code.b c.code_run-to.result (c.loop-code.n + (c.code_run-to.result - c.loop-code.p)) ≡ code_end c.args.rd c.args.start (chars (drop c.args.at c.args.s.now)) c.args.at) × (depth_from (code_turn c.args.rd) 0 (chars (drop c.code_run-to.result c.args.s.now)) c.loop-code.b c.code_run-to.result c.loop-code.deep ≡ code_depth_of c.args.rd (chars (drop c.args.at c.args.s.now)) c.args.at) = let e = rw c.requires at c.code_run-to.ensures in (omega arith, walk-run _ (code_last c.args.start) c.args.s.now c.loop-code.b c.loop-code.p c.code_run-to.result c.loop-code.n e ∙ c.loop-code.invariant.2, depth-run _ c.args.s.now c.loop-code.b c.loop-code.deep c.loop-code.p c.code_run-to.result e ∙ c.loop-code.invariant.3) in w)).0)

pub overflow_add-result-in-Fail : goal.overflow_add-result-in-Fail
overflow_add-result-in-Fail c = let h = (seen _ _ _ _ (sym c.in-Some.ensures)) in let f = (lands _ _ _ _ (code-fail _ _ _ _ _ _ _ _ _ (sym c.turn-x.ensures.0 ∙ c.in-Fail.is))) in omega (arith, f.room h.room, f.gone, ((let w : (c.loop-code.p ≤ c.code_run-to.result) × (walk_from (code_turn c.args.rd) (code_last c.args.start) 0 (chars (drop c.code_run-to.result c.args.s.now)) c.loop-code.b c.code_run-to.result (c.loop-code.n + (c.code_run-to.result - c.loop-code.p)) ≡ code_end c.args.rd c.args.start (chars (drop c.args.at c.args.s.now)) c.args.at) × (depth_from (code_turn c.args.rd) 0 (chars (drop c.code_run-to.result c.args.s.now)) c.loop-code.b c.code_run-to.result c.loop-code.deep ≡ code_depth_of c.args.rd (chars (drop c.args.at c.args.s.now)) c.args.at) = let e = rw c.requires at c.code_run-to.ensures in (omega arith, walk-run _ (code_last c.args.start) c.args.s.now c.loop-code.b c.loop-code.p c.code_run-to.result c.loop-code.n e ∙ c.loop-code.invariant.2, depth-run _ c.args.s.now c.loop-code.b c.loop-code.deep c.loop-code.p c.code_run-to.result e ∙ c.loop-code.invariant.3) in w)).0)

pub returns-in-Fail : goal.returns-in-Fail
returns-in-Fail c =
    let h = (seen _ _ _ _ (sym c.in-Some.ensures)) in
    let e = sym c.turn-x.ensures.0 ∙ c.in-Fail.is in
    let r = (let w : (c.loop-code.p ≤ c.code_run-to.result) × (walk_from (code_turn c.args.rd) (code_last c.args.start) 0 (chars (drop c.code_run-to.result c.args.s.now)) c.loop-code.b c.code_run-to.result (c.loop-code.n + (c.code_run-to.result - c.loop-code.p)) ≡ code_end c.args.rd c.args.start (chars (drop c.args.at c.args.s.now)) c.args.at) × (depth_from (code_turn c.args.rd) 0 (chars (drop c.code_run-to.result c.args.s.now)) c.loop-code.b c.code_run-to.result c.loop-code.deep ≡ code_depth_of c.args.rd (chars (drop c.args.at c.args.s.now)) c.args.at) = let e = rw c.requires at c.code_run-to.ensures in (omega arith, walk-run _ (code_last c.args.start) c.args.s.now c.loop-code.b c.loop-code.p c.code_run-to.result c.loop-code.n e ∙ c.loop-code.invariant.2, depth-run _ c.args.s.now c.loop-code.b c.loop-code.deep c.loop-code.p c.code_run-to.result e ∙ c.loop-code.invariant.3) in w) in
    (sym (walk-fail (code_turn _) _ h _ _ e) ∙ r.1, sym (depth-fail (code_turn _) h _ _ e) ∙ r.2)

pub overflow_add-n-in-Pass : goal.overflow_add-n-in-Pass
overflow_add-n-in-Pass c = omega (arith, (seen _ _ _ _ (sym c.in-Some.ensures)), ((let w : (c.loop-code.p ≤ c.code_run-to.result) × (walk_from (code_turn c.args.rd) (code_last c.args.start) 0 (chars (drop c.code_run-to.result c.args.s.now)) c.loop-code.b c.code_run-to.result (c.loop-code.n + (c.code_run-to.result - c.loop-code.p)) ≡ code_end c.args.rd c.args.start (chars (drop c.args.at c.args.s.now)) c.args.at) × (depth_from (code_turn c.args.rd) 0 (chars (drop c.code_run-to.result c.args.s.now)) c.loop-code.b c.code_run-to.result c.loop-code.deep ≡ code_depth_of c.args.rd (chars (drop c.args.at c.args.s.now)) c.args.at) = let e = rw c.requires at c.code_run-to.ensures in (omega arith, walk-run _ (code_last c.args.start) c.args.s.now c.loop-code.b c.loop-code.p c.code_run-to.result c.loop-code.n e ∙ c.loop-code.invariant.2, depth-run _ c.args.s.now c.loop-code.b c.loop-code.deep c.loop-code.p c.code_run-to.result e ∙ c.loop-code.invariant.3) in w)).0)

pub overflow_add-n-in-Pass-2 : goal.overflow_add-n-in-Pass-2
overflow_add-n-in-Pass-2 c = let h = (seen _ _ _ _ (sym c.in-Some.ensures)) in let f = (let w : Lands (c.args.s.now) ((c.code_run-to.result) + (c.in-Some.width)) c.in-Pass.m c.in-Pass.q × (c.in-Pass.d ≤ c.loop-code.b + 1) = let g = code_pass _ _ _ _ _ _ _ _ _ (sym c.turn-x.ensures.0 ∙ c.in-Pass.is) in (lands _ _ _ _ g.0, g.1) in w) in omega (arith, f.0.room h.room, f.0.gone, ((let w : (c.loop-code.p ≤ c.code_run-to.result) × (walk_from (code_turn c.args.rd) (code_last c.args.start) 0 (chars (drop c.code_run-to.result c.args.s.now)) c.loop-code.b c.code_run-to.result (c.loop-code.n + (c.code_run-to.result - c.loop-code.p)) ≡ code_end c.args.rd c.args.start (chars (drop c.args.at c.args.s.now)) c.args.at) × (depth_from (code_turn c.args.rd) 0 (chars (drop c.code_run-to.result c.args.s.now)) c.loop-code.b c.code_run-to.result c.loop-code.deep ≡ code_depth_of c.args.rd (chars (drop c.args.at c.args.s.now)) c.args.at) = let e = rw c.requires at c.code_run-to.ensures in (omega arith, walk-run _ (code_last c.args.start) c.args.s.now c.loop-code.b c.loop-code.p c.code_run-to.result c.loop-code.n e ∙ c.loop-code.invariant.2, depth-run _ c.args.s.now c.loop-code.b c.loop-code.deep c.loop-code.p c.code_run-to.result e ∙ c.loop-code.invariant.3) in w)).0)

pub loop-code-smaller : goal.loop-code-smaller
loop-code-smaller c = let h = (seen _ _ _ _ (sym c.in-Some.ensures)) in let f = (let w : Lands (c.args.s.now) ((c.code_run-to.result) + (c.in-Some.width)) c.in-Pass.m c.in-Pass.q × (c.in-Pass.d ≤ c.loop-code.b + 1) = let g = code_pass _ _ _ _ _ _ _ _ _ (sym c.turn-x.ensures.0 ∙ c.in-Pass.is) in (lands _ _ _ _ g.0, g.1) in w) in omega (arith, f.0.room h.room, f.0.gone, ((let w : (c.loop-code.p ≤ c.code_run-to.result) × (walk_from (code_turn c.args.rd) (code_last c.args.start) 0 (chars (drop c.code_run-to.result c.args.s.now)) c.loop-code.b c.code_run-to.result (c.loop-code.n + (c.code_run-to.result - c.loop-code.p)) ≡ code_end c.args.rd c.args.start (chars (drop c.args.at c.args.s.now)) c.args.at) × (depth_from (code_turn c.args.rd) 0 (chars (drop c.code_run-to.result c.args.s.now)) c.loop-code.b c.code_run-to.result c.loop-code.deep ≡ code_depth_of c.args.rd (chars (drop c.args.at c.args.s.now)) c.args.at) = let e = rw c.requires at c.code_run-to.ensures in (omega arith, walk-run _ (code_last c.args.start) c.args.s.now c.loop-code.b c.loop-code.p c.code_run-to.result c.loop-code.n e ∙ c.loop-code.invariant.2, depth-run _ c.args.s.now c.loop-code.b c.loop-code.deep c.loop-code.p c.code_run-to.result e ∙ c.loop-code.invariant.3) in w)).0)

pub loop-code-preserved : goal.loop-code-preserved
loop-code-preserved c =
    let h = (seen _ _ _ _ (sym c.in-Some.ensures)) in
    let f = (let w : Lands (c.args.s.now) ((c.code_run-to.result) + (c.in-Some.width)) c.in-Pass.m c.in-Pass.q × (c.in-Pass.d ≤ c.loop-code.b + 1) = let g = code_pass _ _ _ _ _ _ _ _ _ (sym c.turn-x.ensures.0 ∙ c.in-Pass.is) in (lands _ _ _ _ g.0, g.1) in w) in
    let g = f.0.gone in
    let r = (let w : (c.loop-code.p ≤ c.code_run-to.result) × (walk_from (code_turn c.args.rd) (code_last c.args.start) 0 (chars (drop c.code_run-to.result c.args.s.now)) c.loop-code.b c.code_run-to.result (c.loop-code.n + (c.code_run-to.result - c.loop-code.p)) ≡ code_end c.args.rd c.args.start (chars (drop c.args.at c.args.s.now)) c.args.at) × (depth_from (code_turn c.args.rd) 0 (chars (drop c.code_run-to.result c.args.s.now)) c.loop-code.b c.code_run-to.result c.loop-code.deep ≡ code_depth_of c.args.rd (chars (drop c.args.at c.args.s.now)) c.args.at) = let e = rw c.requires at c.code_run-to.ensures in (omega arith, walk-run _ (code_last c.args.start) c.args.s.now c.loop-code.b c.loop-code.p c.code_run-to.result c.loop-code.n e ∙ c.loop-code.invariant.2, depth-run _ c.args.s.now c.loop-code.b c.loop-code.deep c.loop-code.p c.code_run-to.result e ∙ c.loop-code.invariant.3) in w) in
    let e = sym c.turn-x.ensures.0 ∙ c.in-Pass.is in
    let l = c.loop-code in
    let k = r.0 in (
      omega arith,
      omega arith,
      sym (walk_pass (code_turn _) _ h _ _ e f.0) ∙ r.1,
      ap (depth_from (code_turn _) 0 _ _ _) (c.deeper-deep.ensures ∙ ap (deeper l.deep) c.turn-x.ensures.1) ∙ sym (depth_pass (code_turn _) h _ l.deep e f.0) ∙ r.2,
    )

pub returns-then-b-eq0 : goal.returns-then-b-eq0
returns-then-b-eq0 c = (rw (← ((sym (walk_end (code_turn _) _ (ended _ _ (sym c.in-None.ensures)) _ _) ∙ ((let w : (c.loop-code.p ≤ c.code_run-to.result) × (walk_from (code_turn c.args.rd) (code_last c.args.start) 0 (chars (drop c.code_run-to.result c.args.s.now)) c.loop-code.b c.code_run-to.result (c.loop-code.n + (c.code_run-to.result - c.loop-code.p)) ≡ code_end c.args.rd c.args.start (chars (drop c.args.at c.args.s.now)) c.args.at) × (depth_from (code_turn c.args.rd) 0 (chars (drop c.code_run-to.result c.args.s.now)) c.loop-code.b c.code_run-to.result c.loop-code.deep ≡ code_depth_of c.args.rd (chars (drop c.args.at c.args.s.now)) c.args.at) = let e = rw c.requires at c.code_run-to.ensures in (omega arith, walk-run _ (code_last c.args.start) c.args.s.now c.loop-code.b c.loop-code.p c.code_run-to.result c.loop-code.n e ∙ c.loop-code.invariant.2, depth-run _ c.args.s.now c.loop-code.b c.loop-code.deep c.loop-code.p c.code_run-to.result e ∙ c.loop-code.invariant.3) in w)).1))) (search picks), (sym (depth-end (code_turn _) (ended _ _ (sym c.in-None.ensures)) _ _) ∙ ((let w : (c.loop-code.p ≤ c.code_run-to.result) × (walk_from (code_turn c.args.rd) (code_last c.args.start) 0 (chars (drop c.code_run-to.result c.args.s.now)) c.loop-code.b c.code_run-to.result (c.loop-code.n + (c.code_run-to.result - c.loop-code.p)) ≡ code_end c.args.rd c.args.start (chars (drop c.args.at c.args.s.now)) c.args.at) × (depth_from (code_turn c.args.rd) 0 (chars (drop c.code_run-to.result c.args.s.now)) c.loop-code.b c.code_run-to.result c.loop-code.deep ≡ code_depth_of c.args.rd (chars (drop c.args.at c.args.s.now)) c.args.at) = let e = rw c.requires at c.code_run-to.ensures in (omega arith, walk-run _ (code_last c.args.start) c.args.s.now c.loop-code.b c.loop-code.p c.code_run-to.result c.loop-code.n e ∙ c.loop-code.invariant.2, depth-run _ c.args.s.now c.loop-code.b c.loop-code.deep c.loop-code.p c.code_run-to.result e ∙ c.loop-code.invariant.3) in w)).2))

pub returns-in-None : goal.returns-in-None
returns-in-None c = (rw (← ((sym (walk_end (code_turn _) _ (ended _ _ (sym c.in-None.ensures)) _ _) ∙ ((let w : (c.loop-code.p ≤ c.code_run-to.result) × (walk_from (code_turn c.args.rd) (code_last c.args.start) 0 (chars (drop c.code_run-to.result c.args.s.now)) c.loop-code.b c.code_run-to.result (c.loop-code.n + (c.code_run-to.result - c.loop-code.p)) ≡ code_end c.args.rd c.args.start (chars (drop c.args.at c.args.s.now)) c.args.at) × (depth_from (code_turn c.args.rd) 0 (chars (drop c.code_run-to.result c.args.s.now)) c.loop-code.b c.code_run-to.result c.loop-code.deep ≡ code_depth_of c.args.rd (chars (drop c.args.at c.args.s.now)) c.args.at) = let e = rw c.requires at c.code_run-to.ensures in (omega arith, walk-run _ (code_last c.args.start) c.args.s.now c.loop-code.b c.loop-code.p c.code_run-to.result c.loop-code.n e ∙ c.loop-code.invariant.2, depth-run _ c.args.s.now c.loop-code.b c.loop-code.deep c.loop-code.p c.code_run-to.result e ∙ c.loop-code.invariant.3) in w)).1))) (search picks), (sym (depth-end (code_turn _) (ended _ _ (sym c.in-None.ensures)) _ _) ∙ ((let w : (c.loop-code.p ≤ c.code_run-to.result) × (walk_from (code_turn c.args.rd) (code_last c.args.start) 0 (chars (drop c.code_run-to.result c.args.s.now)) c.loop-code.b c.code_run-to.result (c.loop-code.n + (c.code_run-to.result - c.loop-code.p)) ≡ code_end c.args.rd c.args.start (chars (drop c.args.at c.args.s.now)) c.args.at) × (depth_from (code_turn c.args.rd) 0 (chars (drop c.code_run-to.result c.args.s.now)) c.loop-code.b c.code_run-to.result c.loop-code.deep ≡ code_depth_of c.args.rd (chars (drop c.args.at c.args.s.now)) c.args.at) = let e = rw c.requires at c.code_run-to.ensures in (omega arith, walk-run _ (code_last c.args.start) c.args.s.now c.loop-code.b c.loop-code.p c.code_run-to.result c.loop-code.n e ∙ c.loop-code.invariant.2, depth-run _ c.args.s.now c.loop-code.b c.loop-code.deep c.loop-code.p c.code_run-to.result e ∙ c.loop-code.invariant.3) in w)).2))
