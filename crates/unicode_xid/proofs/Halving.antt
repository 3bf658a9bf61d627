-- Where a number lies in a table of ranges, by the place before which the ranges start at or below it.
use Rattle.std.proofs.Common.{◌≡◌, ℕ, zero, suc, ◌+◌, ◌-◌, ◌<◌, ◌≤◌, Bool, true, false, List, [], ◌∷◌, length, get_or, drop, leb, ltb, refl, sym, ◌∙◌, arith, leb-true, ltb-true, ltb-false, le-leb, leb-false}
use Rattle.utf8.specs.Laws.{both}
use Rattle.unicode_xid.specs.Ranges.{in_ranges, ordered}
use Rattle.unicode_xid.specs.Laws.{past, from-none, to_none, found}

-- no range starts below where the table may begin
starts : (t : List (ℕ × ℕ)) (b k : ℕ) (d : ℕ × ℕ) → ordered b t ≡ true → k < length t → b ≤ (get_or t k d).0
unfolding ordered
starts [] b k d o l = absurd (omega arith)
starts (p ∷ t) b zero d o l = leb-true b p.0 (both (leb b p.0) _ o).0
starts (p ∷ t) b (suc k) d o l =
    let o₁ = both (leb b p.0) _ o in
    let o₂ = both (leb p.0 p.1) _ o₁.1 in
    let l₁ = leb-true b p.0 o₁.0 in
    let l₂ = leb-true p.0 p.1 o₂.0 in
    let i = starts t (suc p.1) k d o₂.1 (omega arith) in
    omega arith

-- the starts ascend
pub ascend : (t : List (ℕ × ℕ)) (b : ℕ) → ordered b t ≡ true → (i j : ℕ) (d : ℕ × ℕ) → i ≤ j → j < length t → (get_or t i d).0 ≤ (get_or t j d).0
unfolding ordered
ascend [] b o i j d le l = absurd (omega arith)
ascend (p ∷ t) b o zero zero d le l = omega arith
ascend (p ∷ t) b o zero (suc j) d le l =
    let o₂ = both (leb p.0 p.1) _ (both (leb b p.0) _ o).1 in
    let l₂ = leb-true p.0 p.1 o₂.0 in
    let i = starts t (suc p.1) j d o₂.1 (omega arith) in
    omega arith
ascend (p ∷ t) b o (suc i) zero d le l = absurd (omega arith)
ascend (p ∷ t) b o (suc i) (suc j) d le l =
    let o₂ = both (leb p.0 p.1) _ (both (leb b p.0) _ o).1 in
    ascend t (suc p.1) o₂.1 i j d (omega arith) (omega arith)

module _ (t : List (ℕ × ℕ)) (c k : ℕ) (o : ordered 0 t ≡ true) (upper : k < length t → c < (get_or t k (0, 0)).0) where
  -- none from there on holds it
  none-after : k ≤ length t → in_ranges (drop k t) c ≡ false
  none-after l = go (ltb k (length t)) refl
    where
      go : (b : Bool) → ltb k (length t) ≡ b → in_ranges (drop k t) c ≡ false
      go true e = let h = ltb-true k (length t) e in from-none t 0 k c o h (upper h)
      go false e = past t c k (omega (arith, ltb-false k (length t) e))

  -- the range before is the only one that can
  pub by_last : k ≤ length t → 0 < k → (get_or t (k - 1) (0, 0)).0 ≤ c → leb c (get_or t (k - 1) (0, 0)).1 ≡ in_ranges t c
  by_last l p h = go (leb c (get_or t (k - 1) (0, 0)).1) refl
    where
      go : (b : Bool) → leb c (get_or t (k - 1) (0, 0)).1 ≡ b → b ≡ in_ranges t c
      go true e = sym (found t (k - 1) c (omega arith) h (leb-true _ _ e))
      go false e =
          let q : suc (k - 1) ≡ k = omega arith in
          sym (to_none t 0 (k - 1) c o (omega arith) (leb-false _ _ e) ∙ rw q (none-after l))

pub by_none : (t : List (ℕ × ℕ)) (c : ℕ) → ordered 0 t ≡ true → (0 < length t → c < (get_or t 0 (0, 0)).0) → false ≡ in_ranges t c
unfolding in_ranges
by_none [] c o u = refl
by_none (p ∷ t) c o u = sym (from-none (p ∷ t) 0 0 c o (omega arith) (u (omega arith)))
