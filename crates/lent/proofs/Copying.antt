-- The pure side of the copying of records as numbers: all of them, or none.
use Rattle.std.proofs.Common.{ℕ, ◌+◌, ◌*◌, ◌/◌, ◌≤◌, ◌<◌, ◌≡◌, List, true, false, get_or, length, take, ltb, sym, arith, lt-ltb, le-ltb, length-take-le}
use Rattle.std.proofs.lemmas.List.{take_more}
use Rattle.std.proofs.lemmas.List.Edits.{sets}
use Rattle.record.specs.Stores.{sets_over}
use Rattle.record.specs.declared.Token.{Token}
use Rattle.run.specs.Numbers.{group_size, numbers_all, numbers_of}
use Rattle.run.specs.declared.Group.TheVariants.{Five}
use Rattle.run.proofs.Groups.{all_length, group_on}
use Rattle.lent.specs.Copies.{fitted}

module _ (ts : List Token) (xs : List ℕ) where
  pub copied_none : length xs / group_size < length ts → xs ≡ fitted (numbers_all ts) xs
  unfolding fitted
  copied_none h =
      let t : ltb (length xs) (length (numbers_all ts)) ≡ true = lt-ltb _ _ (omega (arith, h, all_length Five ts)) in
      rw t

  pub copied_all : length ts ≤ length xs / group_size → sets xs 0 (numbers_all ts) ≡ fitted (numbers_all ts) xs
  unfolding fitted
  copied_all h =
      let t : ltb (length xs) (length (numbers_all ts)) ≡ false = le-ltb _ _ (omega (arith, h, all_length Five ts)) in
      rw t (sets_over (numbers_all ts) xs (omega (arith, h, all_length Five ts)))

  -- one record more, after the first i
  pub copied_more : (i : ℕ) (d : Token) (ys : List ℕ) → i < length ts → ys ≡ sets xs 0 (numbers_all (take i ts))
      → sets ys (group_size * i) (numbers_of (get_or ts i d)) ≡ sets xs 0 (numbers_all (take (i + 1) ts))
  copied_more i d ys h y = rw (y, take_more ts i d h) (group_on Five (take i ts) (get_or ts i d) xs i (sym (length-take-le i ts (omega arith))))
