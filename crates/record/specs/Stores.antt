-- Stores into a lent list, one after the other.
use Rattle.std.specs.Prelude.{ℕ, suc, ◌+◌, ◌≤◌, List, [], ◌∷◌, ◌++◌, ◌≡◌, drop, length, set}
use Rattle.std.proofs.Common.{arith, ap, ◌∙◌}
use Rattle.std.proofs.lemmas.List.Edits.{sets, sets-eq}
use Rattle.record.specs.Records.{over}

module _ {A : Type 0} where
  pub sets_append : (xs ys l : List A) (i : ℕ) → sets l i (xs ++ ys) ≡ sets (sets l i xs) (i + length xs) ys
  sets_append [] ys l i =
      let e : i ≡ i + 0 = omega arith in
      ap (λ (k : ℕ). sets l k ys) e
  sets_append (x ∷ xs) ys l i =
      let e : suc i + length xs ≡ i + suc (length xs) = omega arith in
      sets_append xs ys (set l i x) (suc i) ∙ ap (λ (k : ℕ). sets (sets (set l i x) (suc i) xs) k ys) e

  -- all from the start: the new ones, and then what the list held beyond them
  pub sets_over : (new old : List A) → length new ≤ length old → sets old 0 new ≡ over new old
  sets_over new old h =
      let e : 0 + length new ≡ length new = omega arith in
      sets-eq new old 0 (omega arith) ∙ ap (λ (k : ℕ). new ++ drop k old) e
