use Rattle.std.proofs.Common.{rules, ◌≡◌, ◌∙◌, sym, List, ℕ, refl, eqb}
use Rattle.std.proofs.lemmas.Iterator.{YieldsList-from_slice}
use Rattle.std.proofs.lemmas.Iterator.Search.{all_from_yields_List}
use Rattle.std.proofs.lemmas.List.Recursion.{same_from_clauses}
use Rattle.std.specs.Prelude.{◌&&◌, not}
use Rattle.std.specs.List.{list_all}
use borrow.Author.Tests.{tests}
use Rattle.table.specs.Table.{all_occur}
use Rattle.table.proofs.all_occur.Goals as goal

-- that no number is 0, in std's word
each_occurs : (l : List ℕ) → all_occur l ≡ list_all (λ n. not (eqb n 0)) l
unfolding all_occur
each_occurs = same_from_clauses _ _ (λ n b. not (eqb n 0) && b) refl (λ _ _. refl) (λ _ _. refl)

pub returns : goal.returns
returns c =
    all_from_yields_List (λ n. not (eqb n 0)) _ _ c.all.result c.all.ensures.ran (YieldsList-from_slice c.args.counts.now c.iter.ensures.rest) (λ x b q k. search (rules, tests))
    ∙ sym (each_occurs c.args.counts.now)
