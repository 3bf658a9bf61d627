use Rattle.std.proofs.Common.{◌-◌, ◌≡◌, sym, ◌∙◌, arith}
use Rattle.utf8.specs.Picks.{flags}
use Rattle.run.specs.Payload.{payload}
use Rattle.run.specs.Steps.{ranged}
use Rattle.run.proofs.payload.Goals as goal

pub overflow_sub-a : goal.overflow_sub-a
overflow_sub-a c = let h = (ranged _ _ _ _ (sym c.is_payload.ensures ∙ c.if-is_payload.true)) in omega (arith, h.low, h.order)

pub overflow_sub-b : goal.overflow_sub-b
overflow_sub-b c = let h = (ranged _ _ _ _ (sym c.is_payload.ensures ∙ c.if-is_payload.true)) in omega (arith, h.low, h.order)

pub slice_bounds-result-count : goal.slice_bounds-result-count
slice_bounds-result-count c = let h = (ranged _ _ _ _ (sym c.is_payload.ensures ∙ c.if-is_payload.true)) in omega (arith, h.low, h.order)

pub slice_bounds-result-start : goal.slice_bounds-result-start
slice_bounds-result-start c = let h = (ranged _ _ _ _ (sym c.is_payload.ensures ∙ c.if-is_payload.true)) in omega (arith, h.low, h.order, h.inside)

pub slice_bounds-result-end : goal.slice_bounds-result-end
slice_bounds-result-end c = let h = (ranged _ _ _ _ (sym c.is_payload.ensures ∙ c.if-is_payload.true)) in omega (arith, h.low, h.order, h.inside)

pub returns-then-is_payload : goal.returns-then-is_payload
unfolding payload
returns-then-is_payload c =
    let a = c.args in
    let h = (ranged _ _ _ _ (sym c.is_payload.ensures ∙ c.if-is_payload.true)) in
    let j : a.t.payload_end - a.shift - (a.t.payload_start - a.shift) ≡ a.t.payload_end - a.t.payload_start = omega (arith, h.low, h.order) in
    rw j (search flags)

pub returns : goal.returns
unfolding payload
returns c = search flags
