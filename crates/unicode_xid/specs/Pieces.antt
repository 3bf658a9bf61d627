-- A piece of a table answers for its code points as the whole table does.
use Rattle.std.specs.Prelude.{ℕ, zero, suc, ◌+◌, ◌≤◌, ◌<◌, ◌≡◌, refl, Bool, true, false, List, [], ◌∷◌, leb, eqb, length, get_or, take, drop}
use Rattle.std.proofs.Common.{sym, ◌∙◌, arith, drop-drop, leb-true, le-leb, eqb-true}
use Rattle.utf8.specs.Laws.{both}
use Rattle.unicode_xid.specs.Laws.{above_holds, from-none, past}
use Rattle.unicode_xid.specs.Ranges.{in_ranges, ordered}

-- the n-th range of a table starts at a
unfoldable pub cut_from : List (ℕ × ℕ) → ℕ → ℕ → Bool
cut_from [] n a = false
cut_from (p ∷ t) zero a = eqb p.0 a
cut_from (p ∷ t) (suc n) a = cut_from t n a

cut-is : (t : List (ℕ × ℕ)) (n a : ℕ) → cut_from t n a ≡ true → (n < length t) × ((get_or t n (0, 0)).0 ≡ a)
unfolding cut_from
cut-is [] n a e = let z : ◌≡◌ {A = ℕ} 0 1 = cc in absurd (omega arith)
cut-is (p ∷ t) zero a e = (omega arith, eqb-true _ _ e)
cut-is (p ∷ t) (suc n) a e = let i = cut-is t n a e in (omega (arith, i.0), i.1)

-- the starts ascend
starts : (t : List (ℕ × ℕ)) (b k : ℕ) → ordered b t ≡ true → k < length t → b ≤ (get_or t k (0, 0)).0
unfolding ordered
starts [] b k o l = absurd (omega arith)
starts (p ∷ t) b zero o l = leb-true b p.0 (both (leb b p.0) _ o).0
starts (p ∷ t) b (suc k) o l =
    let o₁ = both (leb b p.0) _ o in
    let o₂ = both (leb p.0 p.1) _ o₁.1 in
    let l₁ = leb-true b p.0 o₁.0 in
    let l₂ = leb-true p.0 p.1 o₂.0 in
    let i = starts t (suc p.1) k o₂.1 (omega arith) in
    omega arith

-- c lies at or above the start of the range n: no range before it holds c
before-none : (t : List (ℕ × ℕ)) (b n c : ℕ) → ordered b t ≡ true → n < length t → (get_or t n (0, 0)).0 ≤ c → in_ranges (drop n t) c ≡ in_ranges t c
unfolding in_ranges ordered
before-none [] b n c o l h = absurd (omega arith)
before-none (p ∷ t) b zero c o l h = refl
before-none (p ∷ t) b (suc n) c o l h =
    let o₂ = both (leb p.0 p.1) _ (both (leb b p.0) _ o).1 in
    let i = starts t (suc p.1) n o₂.1 (omega arith) in
    rw (above_holds p c (omega arith)) (before-none t (suc p.1) n c o₂.1 (omega arith) h)

-- no range from m on holds c
after_none : (t : List (ℕ × ℕ)) (m c : ℕ) → in_ranges (drop m t) c ≡ false → in_ranges (take m t) c ≡ in_ranges t c
unfolding in_ranges
after_none [] zero c h = refl
after_none [] (suc m) c h = refl
after_none (p ∷ t) zero c h = sym h
after_none (p ∷ t) (suc m) c h = rw (after_none t m c h)

-- a part of a table in order is in order
order_less : (t : List (ℕ × ℕ)) (b : ℕ) → ordered b t ≡ true → ordered 0 t ≡ true
unfolding ordered
order_less [] b o = refl
order_less (p ∷ t) b o = rw (le-leb 0 p.0 (omega arith)) (both (leb b p.0) _ o).1

order_drop : (n : ℕ) (t : List (ℕ × ℕ)) (b : ℕ) → ordered b t ≡ true → ordered 0 (drop n t) ≡ true
unfolding ordered
order_drop zero t b o = order_less t b o
order_drop (suc n) [] b o = refl
order_drop (suc n) (p ∷ t) b o = order_drop n t (suc p.1) (both (leb p.0 p.1) _ (both (leb b p.0) _ o).1).1

order_take : (m : ℕ) (t : List (ℕ × ℕ)) (b : ℕ) → ordered b t ≡ true → ordered b (take m t) ≡ true
unfolding ordered
order_take zero t b o = refl
order_take (suc m) [] b o = refl
order_take (suc m) (p ∷ t) b o =
    let o₁ = both (leb b p.0) _ o in
    let o₂ = both (leb p.0 p.1) _ o₁.1 in
    rw (o₁.0, o₂.0) (order_take m t (suc p.1) o₂.1)

-- THE LAW OF A PIECE: m ranges, from the n-th on, are in order, and answer for each c that no range before and none after them holds
pub piece_order : (t : List (ℕ × ℕ)) (n m : ℕ) → ordered 0 t ≡ true → ordered 0 (take m (drop n t)) ≡ true
piece_order t n m o = order_take m (drop n t) 0 (order_drop n t 0 o)

module _ (t : List (ℕ × ℕ)) (n m c : ℕ) (o : ordered 0 t ≡ true) where
  -- the first piece ends below b
  pub piece_first : (b : ℕ) → cut_from t m b ≡ true → c < b → in_ranges (take m t) c ≡ in_ranges t c
  piece_first b k q = let j = cut-is t m b k in after_none t m c (from-none t 0 m c o j.0 (omega arith))

  module _ (a : ℕ) (f : cut_from t n a ≡ true) (h : a ≤ c) where
    from-a : in_ranges (drop n t) c ≡ in_ranges t c
    from-a = let i = cut-is t n a f in before-none t 0 n c o i.0 (omega arith)

    -- one in the middle starts at a, and ends below b
    pub piece_between : (b : ℕ) → cut_from t (n + m) b ≡ true → c < b → in_ranges (take m (drop n t)) c ≡ in_ranges t c
    piece_between b k q =
        let j = cut-is t (n + m) b k in
        after_none (drop n t) m c (rw (drop-drop m n t) (from-none t 0 (n + m) c o j.0 (omega arith))) ∙ from-a

    -- the last starts at a
    pub piece_last : n + m ≡ length t → in_ranges (take m (drop n t)) c ≡ in_ranges t c
    piece_last k = after_none (drop n t) m c (rw (drop-drop m n t) (past t c (n + m) k)) ∙ from-a
