use Rattle.std.proofs.Common.{rules, arith, ◌≡◌, ◌<◌, ◌^◌, List, ℕ, refl}
use Rattle.std.proofs.lemmas.List.Recursion.{is_sum_by}
use Rattle.std.proofs.iter.runs.Made.{chains}
use Rattle.std.specs.List.{sum_by}
use Rattle.table.specs.Laws.{total-most}
use Rattle.table.specs.Table.{total}
use Rattle.table.proofs.total.Goals as goal

-- a total, in std's word
total_is : (l : List ℕ) → total l ≡ sum_by (λ n. n) l
unfolding total
total_is = is_sum_by total (λ n. n) refl (λ _ _. refl)

pub sum-requires-clause-fits : goal.sum-requires-clause-fits
sum-requires-clause-fits c =
    let e = total_is c.args.counts.now in
    let h : sum_by (λ (n : ℕ). n) c.args.counts.now < 2 ^ 64 = omega (arith, e, total-most c.args.counts.now c.requires.1, c.requires.0) in
    search (rules, chains, h)

pub returns : goal.returns
returns c = rw (total_is c.args.counts.now) (search (rules, chains))
