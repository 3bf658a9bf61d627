-- THE THEOREM: where nothing differs the answer is what is recorded; and the laws of the walk.
use Rattle.std.specs.Prelude.{◌+◌, ◌<◌, ◌≤◌, ℕ, Bool, false, true, List, [], ◌∷◌, ◌≡◌, refl, eqb, drop, get_or, length}
use Rattle.std.proofs.Common.{add-zero, add-one, arith, ◌∙◌, sym, drop_of_length-le, drop-cons, eq-eqb, eqb-true, ne_eqb}
use Rattle.recorded.specs.Recorded.{differ, differ_from}
use Rattle.recorded.specs.declared.Difference.TheVariants.{Length, Number, Same}

same_from : (at : ℕ) (rs xs : List ℕ) → length rs ≡ length xs → differ_from at rs xs ≡ Same → rs ≡ xs
unfolding differ_from
same_from at [] [] l e = refl
same_from at [] (a ∷ xs) l e = absurd (omega arith)
same_from at (r ∷ rs) [] l e = absurd (omega arith)
same_from at (r ∷ rs) (a ∷ xs) l e = go (eqb r a) refl (λ h. same_from (at + 1) rs xs (omega arith) h)
  where
    go : (b : Bool) → eqb r a ≡ b → (differ_from (at + 1) rs xs ≡ Same → rs ≡ xs) → r ∷ rs ≡ a ∷ xs
    go true q f = let w : r ≡ a = eqb-true r a q in let u : rs ≡ xs = f (rw q at e) in cc
    go false q f = let h : Number at r a ≡ Same = rw q at e in let z : ◌≡◌ {A = ℕ} 0 1 = cc in absurd (omega arith)

pub no_difference : (first : ℕ) (rs xs : List ℕ) → differ first rs xs ≡ Same → rs ≡ xs
unfolding differ
no_difference first rs xs e = go (eqb (length rs) (length xs)) refl
  where
    go : (b : Bool) → eqb (length rs) (length xs) ≡ b → rs ≡ xs
    go true q = same_from first rs xs (eqb-true _ _ q) (rw q at e)
    go false q = let z : ◌≡◌ {A = ℕ} 0 1 = (let h = rw q at e in cc) in absurd (omega arith)

-- ---- the walk over both lists
-- the numbers before i are the same
pub record Walked (first i : ℕ) (rs xs : List ℕ) : Type 0 where
  pub as_long : length rs ≡ length xs
  pub within : i ≤ length rs
  pub on : differ first rs xs ≡ differ_from (first + i) (drop i rs) (drop i xs)

pub not_as_long : (first : ℕ) (rs xs : List ℕ) → (length rs ≡ length xs → ⊥) → Length (length rs) (length xs) ≡ differ first rs xs
unfolding differ
not_as_long first rs xs n = rw (ne_eqb (length rs) (length xs) n)

pub walk_start : (first : ℕ) (rs xs : List ℕ) → length rs ≡ length xs → Walked first 0 rs xs
unfolding differ
walk_start first rs xs l = record { as_long = l; within = omega arith; on = rw (eq-eqb (length rs) (length xs) l, add-zero first) }

pub walk-on : {first i : ℕ} {rs xs : List ℕ} → Walked first i rs xs → i < length rs → get_or rs i 0 ≡ get_or xs i 0 → Walked first (i + 1) rs xs
unfolding differ_from
walk-on {first} {i} {rs} {xs} w l q =
    let e : first + i + 1 ≡ first + (i + 1) = omega arith in
    let m : i < length xs = (let k = w.as_long in omega arith) in
    let o : differ_from (first + i) (drop i rs) (drop i xs) ≡ differ_from (first + (i + 1)) (drop (i + 1) rs) (drop (i + 1) xs) =
    rw (drop-cons rs i 0 l, drop-cons xs i 0 m, eq-eqb (get_or rs i 0) (get_or xs i 0) q, e, add-one i) in
    record { as_long = w.as_long; within = omega arith; on = w.on ∙ o }

pub walk-differs : {first i : ℕ} {rs xs : List ℕ} → Walked first i rs xs → i < length rs → (get_or rs i 0 ≡ get_or xs i 0 → ⊥)
    → Number (first + i) (get_or rs i 0) (get_or xs i 0) ≡ differ first rs xs
unfolding differ_from
walk-differs {first} {i} {rs} {xs} w l n =
    let m : i < length xs = (let k = w.as_long in omega arith) in
    let o : differ_from (first + i) (drop i rs) (drop i xs) ≡ Number (first + i) (get_or rs i 0) (get_or xs i 0) =
    rw (drop-cons rs i 0 l, drop-cons xs i 0 m, ne_eqb (get_or rs i 0) (get_or xs i 0) n) in
    sym (w.on ∙ o)

pub walk_end : {first i : ℕ} {rs xs : List ℕ} → Walked first i rs xs → length rs ≤ i → Same ≡ differ first rs xs
unfolding differ_from
walk_end {first} {i} {rs} {xs} w l = sym (w.on ∙ rw (drop_of_length-le rs l))
