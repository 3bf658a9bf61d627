use Rattle.std.proofs.Common.{rules, ◌≡◌, ◌∙◌, sym, List, ℕ, refl, leb}
use Rattle.std.proofs.lemmas.Iterator.{YieldsList-from_slice}
use Rattle.std.proofs.lemmas.Iterator.Search.{all_from_yields_List}
use Rattle.std.proofs.lemmas.List.Recursion.{same_from_clauses}
use Rattle.std.specs.Prelude.{◌&&◌}
use Rattle.std.specs.List.{list_all}
use borrow.Author.Tests.{tests}
use Rattle.sheet.specs.Adds.{work_limit}
use Rattle.sheet.specs.Sheet.{within}
use Rattle.table.proofs.is_small.Goals as goal

-- that no number is above a bound, in std's word
each_within : (l : List ℕ) → within work_limit l ≡ list_all (λ n. leb n work_limit) l
unfolding within
each_within = same_from_clauses _ _ (λ n b. leb n work_limit && b) refl (λ _ _. refl) (λ _ _. refl)

pub returns : goal.returns
returns c =
    all_from_yields_List (λ n. leb n work_limit) _ _ c.all.result c.all.ensures.ran (YieldsList-from_slice c.args.counts.now c.iter.ensures.rest) (λ x b q k. search (rules, tests))
    ∙ sym (each_within c.args.counts.now)
