use Rattle.std.proofs.Common.{◌≡◌, ℕ, List, ◌+◌, ◌-◌, ap, ◌∙◌, arith, length, drop, take, take_all, length-drop, lt-ltb, le-ltb}
use Rattle.std.specs.Prelude.{false}
use Rattle.utf8.specs.Chars.{'newline}
use Rattle.property.specs.Lines.{front, line_of, read_of, line_at}
use Rattle.property.specs.Laws.{front-within}
use Rattle.property.proofs.line.line_at.Goals as goal

pub returns-then-s-at : goal.returns-then-s-at
unfolding line_at
returns-then-s-at c = rw (le-ltb c.args.at (length c.args.s.now) (omega arith))

-- what the call was lent is the text from the place on
lent : (s : List ℕ) (at n : ℕ) → n ≡ front 'newline false (take (length s - at) (drop at s)) → n ≡ front 'newline false (drop at s)
lent s at n e = let t : take (length s - at) (drop at s) ≡ drop at s = take_all _ _ (omega (arith, length-drop at s)) in rw t at e

pub overflow_add-end : goal.overflow_add-end
overflow_add-end c =
    let a = c.args in
    let e = lent a.s.now a.at c.front.result c.front.ensures in
    omega (arith, e, front-within 'newline false a.s.now a.at (omega arith))

pub slice_bounds-parse-end : goal.slice_bounds-parse-end
slice_bounds-parse-end c =
    let a = c.args in
    let e = lent a.s.now a.at c.front.result c.front.ensures in
    omega (arith, e, front-within 'newline false a.s.now a.at (omega arith))

pub returns : goal.returns
unfolding line_at read_of
returns c =
    let a = c.args in
    let s = a.s.now in
    let e = lent s a.at c.front.result c.front.ensures in
    let m : a.at + c.front.result - a.at ≡ front 'newline false (drop a.at s) = omega arith in
    rw (lt-ltb a.at (length s) (omega arith), c.parse.ensures ∙ ap (λ (k : ℕ). line_of (take k (drop a.at s))) m, e)
