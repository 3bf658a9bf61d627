-- A sheet's numbers, one after another: those so far, and then those that are left, are all.
use Rattle.std.specs.Prelude.{ℕ, suc, ◌+◌, ◌<◌, ◌≤◌, List, [], ◌∷◌, ◌++◌, ◌≡◌, refl, drop, get_or, length, Option}
use Rattle.std.proofs.Common.{arith, ◌∙◌, ap, drop_of_length-le, drop-cons, append_assoc, eq-eqb, ne_eqb}
use Rattle.text.specs.Bytes.{bytes}
use Rattle.text.specs.Digits.{digits}
use Rattle.text.specs.Lay.{Laid, lay, lay_all, lay-append}
use Rattle.shown.specs.Page.{all_pieces, number_pieces, page_pieces}

abbrev pub Is : Laid → Option ℕ → List ℕ → Type 0
Is x c e = (c ≡ x.to) × (e ≡ x.held)

module _ (d : List ℕ) (from : Option ℕ) (i n : ℕ) where
  -- a 0 is not told
  pub number-none : n ≡ 0 → Is (lay_all d from (number_pieces i n)) from d
  unfolding lay_all number_pieces
  number-none h = rw (eq-eqb n 0 h) (refl, refl)

  -- any other number is told in four pieces
  pub number-put : ¬ (n ≡ 0) → (a b c e : Option ℕ) (p q r s : List ℕ)
      → Is (lay d from (bytes " ")) a p → Is (lay p a (digits i)) b q → Is (lay q b (bytes ":")) c r → Is (lay r c (digits n)) e s
      → Is (lay_all d from (number_pieces i n)) e s
  unfolding lay_all number_pieces
  number-put h a b c e p q r s k l m o =
      let l2 = rw (k.0, k.1) at l in
      let m2 = rw (l2.0, l2.1) at m in
      let o2 = rw (m2.0, m2.1) at o in
      rw (ne_eqb n 0 h) o2

-- the pieces that are left from number i on
abbrev pub left : List ℕ → ℕ → List (List ℕ)
left l i = all_pieces i (drop i l) ++ (bytes "\n" ∷ [])

abbrev pub Going : List ℕ → Option ℕ → List ℕ → List ℕ → Option ℕ → ℕ → Type 0
Going d from l e c i = lay_all e c (left l i) ≡ lay_all d from (page_pieces l)

module _ (d : List ℕ) (from : Option ℕ) (l : List ℕ) where
  pub going-first : (e : List ℕ) (c : Option ℕ) → Is (lay d from (bytes " ")) c e → Going d from l e c 0
  unfolding lay_all page_pieces
  going-first e c k = rw (k.0, k.1) refl

  one-more : (i : ℕ) → i < length l → left l i ≡ number_pieces i (get_or l i 0) ++ left l (i + 1)
  unfolding all_pieces
  one-more i h =
      let a : suc i ≡ i + 1 = omega arith in
      rw (drop-cons l i 0 h ∙ ap (λ (k : ℕ). get_or l i 0 ∷ drop k l) a)
      (append_assoc (number_pieces i (get_or l i 0)) (all_pieces (i + 1) (drop (i + 1) l)) (bytes "\n" ∷ []))

  module _ (e : List ℕ) (c : Option ℕ) (i : ℕ) (o : Going d from l e c i) where
    pub going-on : (r : Option ℕ) (x : List ℕ) → i < length l → Is (lay_all e c (number_pieces i (get_or l i 0))) r x → Going d from l x r (i + 1)
    going-on r x h k = rw (k.0, k.1, ← (lay-append e c (number_pieces i (get_or l i 0)) (left l (i + 1))), ← (one-more i h)) o

    pub going-last : (r : Option ℕ) (x : List ℕ) → length l ≤ i → Is (lay e c (bytes "\n")) r x → Is (lay_all d from (page_pieces l)) r x
    unfolding all_pieces lay_all
    going-last r x h k =
        let t = rw (drop_of_length-le l h) at o in
        rw (← t) k
