use Rattle.std.proofs.Common.{ℕ, ◌≡◌, ◌<◌, List, sym, ap, ◌∙◌, arith, get_or, length, map}
use Rattle.std.proofs.lemmas.List.{get_or-map, length-map}
use Rattle.recorded.specs.Same.{not_as_long, walk_start, walk-on, walk-differs, walk_end}
use Rattle.recorded.proofs.first_difference.Goals as goal

-- the number that was read, as one of the numbers
read : {A : Type 0} (value : A → ℕ) (xs : List A) (i n : ℕ) (x : A) → i < length xs → n ≡ value x → x ≡ get_or xs i x → get_or (map value xs) i 0 ≡ n
read value xs i n x l e f = get_or-map value xs i x 0 l ∙ sym (e ∙ ap value f)

pub returns-then-recorded-answered : goal.returns-then-recorded-answered
returns-then-recorded-answered g c =
    let l = length-map c.args.answered.now g.T.Number.value in
    rw l at (not_as_long c.args.first c.args.recorded.now (map g.T.Number.value c.args.answered.now) (λ e. omega arith))

pub loop-i-init : goal.loop-i-init
loop-i-init g c = walk_start _ _ _ (c.if-recorded-answered.false ∙ sym (length-map c.args.answered.now g.T.Number.value))

pub returns-then-r-a : goal.returns-then-r-a
returns-then-r-a g c =
    let e = read g.T.Number.value c.args.answered.now c.loop-i.i c.number-a.result c.index-answered-i.result (omega arith) c.number-a.ensures c.index-answered-i.is in
    rw e at (walk-differs c.loop-i.invariant (omega arith) (λ f. c.if-r-a.true (f ∙ e)))

pub loop-i-preserved : goal.loop-i-preserved
loop-i-preserved g c =
    let e = read g.T.Number.value c.args.answered.now c.loop-i.i c.number-a.result c.index-answered-i.result (omega arith) c.number-a.ensures c.index-answered-i.is in
    walk-on c.loop-i.invariant (omega arith) (c.if-r-a.false ∙ sym e)

pub returns : goal.returns
returns g c = walk_end c.loop-i.invariant (omega arith)
