-- Digits read back are the number; there is no leading zero; how many there are.
use Rattle.std.specs.Prelude.{ℕ, zero, suc, ◌+◌, ◌-◌, ◌*◌, ◌/◌, ◌%◌, ◌≤◌, ◌<◌, Bool, true, false, cond, List, [], ◌∷◌, ◌≡◌, refl, ltb, get_or, length}
use Rattle.std.proofs.Common.{arith, ap, ◌∙◌, le-ltb, lt-ltb}
use Rattle.utf8.specs.Picks.{tests}
use Rattle.text.specs.Digits.{digits, digits_then, most_digits, value_from, width, width_in}

pub length-then : (w n : ℕ) (l : List ℕ) → length (digits_then w n l) ≡ w + length l
unfolding digits_then
length-then zero n l = omega arith
length-then (suc w) n l = let h = length-then w (n / 10) ((48 + n % 10) ∷ l) in omega (arith, h)

pub length_digits : (n : ℕ) → length (digits n) ≡ width n
unfolding digits
length_digits n = let h = length-then (width n) n [] in omega (arith, h)

pub width-most : (k n : ℕ) → width_in k n ≤ k
unfolding width_in
width-most zero n = omega arith
width-most (suc k) n = go (ltb n 10) refl (width-most k (n / 10))
  where
    go : (t : Bool) → ltb n 10 ≡ t → width_in k (n / 10) ≤ k → cond (ltb n 10) 1 (suc (width_in k (n / 10))) ≤ suc k
    go true e h = rw e (omega arith)
    go false e h = rw e (omega (arith, h))

-- no number has more than twenty digits here
pub at-most_twenty : (n : ℕ) → length (digits n) ≤ 20
unfolding width
at-most_twenty n = let a = length_digits n in let b = width-most 20 n in omega (arith, a, b)

-- a power of ten
unfoldable pub ten : ℕ → ℕ
ten zero = 1
ten (suc k) = 10 * ten k

-- n has no more digits than its width
fits : (k n : ℕ) → n < ten k → n < ten (width_in k n)
unfolding ten width_in
fits zero n h = h
fits (suc k) n h = go (ltb n 10) refl (fits k (n / 10) (omega (arith, h)))
  where
    go : (t : Bool) → ltb n 10 ≡ t → n / 10 < ten (width_in k (n / 10)) → n < ten (cond (ltb n 10) 1 (suc (width_in k (n / 10))))
    go true e i = rw e (omega tests)
    go false e i = rw e (omega (arith, i))

shift_ten : (v w : ℕ) → v * (10 * ten w) ≡ 10 * (v * ten w)
shift_ten v w = omega arith

back : (w n v : ℕ) (l : List ℕ) → n < ten w → value_from v (digits_then w n l) ≡ value_from (v * ten w + n) l
unfolding digits_then ten value_from
back zero n v l h = ap (λ (x : ℕ). value_from x l) (omega (arith, h))
back (suc w) n v l h =
    back w (n / 10) v ((48 + n % 10) ∷ l) (omega (arith, h))
    ∙ ap (λ (x : ℕ). value_from x l) (omega (arith, shift_ten v w))

-- THE THEOREM: every number of at most twenty digits is what its digits say
pub read_back : (n : ℕ) → n < ten most_digits → value_from 0 (digits n) ≡ n
unfolding digits value_from width
read_back n h = back (width n) n 0 [] (fits most_digits n h) ∙ omega arith

high : (k n : ℕ) (l : List ℕ) → 1 ≤ n → n < ten k → 48 < get_or (digits_then (width_in k n) n l) 0 0
unfolding digits_then ten width_in
high zero n l a h = absurd (omega (arith, a, h))
high (suc k) n l a h = go (ltb n 10) refl (λ b. high k (n / 10) ((48 + n % 10) ∷ l) b (omega (arith, h)))
  where
    go : (t : Bool) → ltb n 10 ≡ t → (1 ≤ n / 10 → 48 < get_or (digits_then (width_in k (n / 10)) (n / 10) ((48 + n % 10) ∷ l)) 0 0) → 48 < get_or (digits_then (cond (ltb n 10) 1 (suc (width_in k (n / 10)))) n l) 0 0
    go true e i = rw e (omega tests)
    go false e i = rw e (i (omega tests))

-- and none but 0 begins with the digit 0
pub no_leading_zero : (n : ℕ) → 1 ≤ n → n < ten most_digits → 48 < get_or (digits n) 0 0
unfolding digits width
no_leading_zero n a h = high most_digits n [] a h

-- so every number of 64 bits
pub all_of_64 : (n : ℕ) → n < 18446744073709551616 → n < ten most_digits
unfolding ten
all_of_64 n h = omega (arith, h)

-- ---- what the code cites: a turn of the count of digits, with w of them passed, the number m left
abbrev pub Counted : ℕ → ℕ → ℕ → Type 0
Counted n m w = (1 ≤ w) × (w ≤ most_digits) × (width n ≡ w - 1 + width_in (suc most_digits - w) m)

width_one : (k m : ℕ) → m < 10 → width_in (suc k) m ≡ 1
unfolding width_in
width_one k m h = rw (lt-ltb m 10 h)

width-more : (k m : ℕ) → 10 ≤ m → width_in (suc k) m ≡ suc (width_in k (m / 10))
unfolding width_in
width-more k m h = rw (le-ltb m 10 h)

width_least : (m : ℕ) → width_in 1 m ≡ 1
unfolding width_in
width_least m = go (ltb m 10)
  where
    go : (t : Bool) → ◌≡◌ {A = ℕ} (cond t 1 1) 1
    go true = refl
    go false = refl

pub counted-first : (n : ℕ) → Counted n n 1
unfolding width
counted-first n = (omega arith, omega arith, omega arith)

fuel : (n m w k : ℕ) → suc most_digits - w ≡ k → width n ≡ w - 1 + width_in (suc most_digits - w) m → width n ≡ w - 1 + width_in k m
fuel n m w k e h = rw e at h

pub counted-on : (n m w : ℕ) → Counted n m w → w < most_digits → 10 ≤ m → Counted n (m / 10) (w + 1)
counted-on n m w h l t =
    let a = fuel n m w (suc (most_digits - w)) (omega arith) h.2 in
    let b = width-more (most_digits - w) m t in
    let e : suc most_digits - (w + 1) ≡ most_digits - w = omega arith in
    (omega arith, omega arith, rw e (omega (arith, a, b, h.0)))

pub counted_all : (n m w : ℕ) → Counted n m w → w < most_digits → m < 10 → w ≡ width n
counted_all n m w h l t =
    let a = fuel n m w (suc (most_digits - w)) (omega arith) h.2 in
    let b = width_one (most_digits - w) m t in
    omega (arith, a, b, h.0)

pub counted-most : (n m w : ℕ) → Counted n m w → most_digits ≤ w → w ≡ width n
counted-most n m w h l =
    let a = fuel n m w 1 (omega (arith, h.1)) h.2 in
    let b = width_least m in
    omega (arith, a, b, h.0, h.1)
