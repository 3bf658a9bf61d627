-- How long the names are, and which numbers have none; and lists of names that stand one after another, with where each ends: each is the name that the definition gives.
use Rattle.std.specs.Prelude.{ℕ, zero, suc, ◌+◌, ◌-◌, ◌≤◌, ◌<◌, Bool, true, false, ◌&&◌, List, [], ◌∷◌, ◌≡◌, eqb, leb, drop, get_or, length, take}
use Rattle.std.proofs.Common.{arith, ap, subst, ◌∙◌, length-drop, length-take-le}
use Rattle.std.proofs.Math.Path.{refl}
use Rattle.std.proofs.Math.ListN.{get_or-eq_default}
use Rattle.utf8.specs.Picks.{tests}
use Rattle.text.specs.Bytes.{bytes, join}
use Rattle.text.specs.Names.{code_name, code_names, kind_name, kind_names, same}

-- what stands from the end of one name to the end of the next
abbrev pub named : List ℕ → List ℕ → ℕ → ℕ → List ℕ
named names ends i j = take (get_or ends j 0 - get_or ends i 0) (drop (get_or ends i 0) names)

pub record Named (names ends : List ℕ) (i j : ℕ) : Type 0 where
  pub index : j < length ends
  pub ordered : get_or ends i 0 ≤ get_or ends j 0
  pub inside : get_or ends j 0 ≤ length names

-- one test of a whole table
unfoldable pub right : List ℕ → List ℕ → List (List ℕ) → Bool
right names [] [] = false
right names (a ∷ []) [] = true
right names (a ∷ b ∷ es) (k ∷ ks) = (leb a b && (leb b (length names) && same (take (b - a) (drop a names)) k)) && right names (b ∷ es) ks
right names (a ∷ b ∷ es) [] = false
right names [] (k ∷ ks) = false
right names (a ∷ []) (k ∷ ks) = false

and_left : (a b : Bool) → a && b ≡ true → a ≡ true
and_left true b e = refl
and_left false b e = e

and_right : (a b : Bool) → a && b ≡ true → b ≡ true
and_right true b e = e
and_right false b e = cc

nothing_true : {A : Type 0} → false ≡ true → A
nothing_true e = let z : ◌≡◌ {A = ℕ} 0 1 = cc in absurd (omega arith)

pub same-is : (l m : List ℕ) → same l m ≡ true → l ≡ m
unfolding same
same-is [] [] e = refl
same-is [] (b ∷ m) e = nothing_true e
same-is (a ∷ l) [] e = nothing_true e
same-is (a ∷ l) (b ∷ m) e =
    let p = and_left (eqb a b) (same l m) e in
    let q : a ≡ b = omega tests in
    ap (λ (x : ℕ). x ∷ l) q ∙ ap (λ (x : List ℕ). b ∷ x) (same-is l m (and_right (eqb a b) (same l m) e))

named-next : (names ends : List ℕ) (ks : List (List ℕ)) (i : ℕ) → right names ends ks ≡ true → i < length ks
    → Named names ends i (suc i) × (named names ends i (suc i) ≡ get_or ks i [])
unfolding right
named-next names [] [] i e h = nothing_true e
named-next names [] (k ∷ ks) i e h = nothing_true e
named-next names (a ∷ []) [] i e h = absurd (omega (arith, h))
named-next names (a ∷ []) (k ∷ ks) i e h = nothing_true e
named-next names (a ∷ b ∷ es) [] i e h = nothing_true e
named-next names (a ∷ b ∷ es) (k ∷ ks) zero e h =
    let f = and_left (leb a b && (leb b (length names) && same (take (b - a) (drop a names)) k)) (right names (b ∷ es) ks) e in
    let g = and_left (leb a b) (leb b (length names) && same (take (b - a) (drop a names)) k) f in
    let m = and_right (leb a b) (leb b (length names) && same (take (b - a) (drop a names)) k) f in
    let n = and_left (leb b (length names)) (same (take (b - a) (drop a names)) k) m in
    let o = and_right (leb b (length names)) (same (take (b - a) (drop a names)) k) m in
    (record { index = omega arith; ordered = omega tests; inside = omega tests }, same-is _ _ o)
named-next names (a ∷ b ∷ es) (k ∷ ks) (suc i) e h =
    let r = named-next names (b ∷ es) ks i (and_right (leb a b && (leb b (length names) && same (take (b - a) (drop a names)) k)) (right names (b ∷ es) ks) e) (omega (arith, h)) in
    let n = r.0 in
    let x = n.index in
    (record { index = omega (arith, x); ordered = n.ordered; inside = n.inside }, r.1)

pub named-at : (names ends : List ℕ) (ks : List (List ℕ)) (i : ℕ) → right names ends ks ≡ true → i < length ks
    → Named names ends i (i + 1) × (named names ends i (i + 1) ≡ get_or ks i [])
named-at names ends ks i e h =
    let f : suc i ≡ i + 1 = omega arith in
    subst (λ (j : ℕ). Named names ends i j × (named names ends i j ≡ get_or ks i [])) f (named-next names ends ks i e h)

-- no name is longer than this
unfoldable pub short : ℕ → List (List ℕ) → Bool
short n [] = true
short n (k ∷ ks) = leb (length k) n && short n ks

pub short-at : (n : ℕ) (ks : List (List ℕ)) (i : ℕ) → short n ks ≡ true → length (get_or ks i []) ≤ n
unfolding short
short-at n [] i e = omega arith
short-at n (k ∷ ks) zero e = let f = and_left (leb (length k) n) (short n ks) e in omega tests
short-at n (k ∷ ks) (suc i) e = short-at n ks i (and_right (leb (length k) n) (short n ks) e)

pub kind_short : (n : ℕ) → length (kind_name n) ≤ 29
unfolding bytes kind_name kind_names short
kind_short n = short-at 29 kind_names n refl

pub code-short : (n : ℕ) → length (code_name n) ≤ 29
unfolding bytes code_name code_names short
code-short n = short-at 29 code_names n refl

-- a number that none has
pub kind_none : (n : ℕ) → 54 ≤ n → kind_name n ≡ []
unfolding bytes kind_name kind_names
kind_none n h = get_or-eq_default kind_names [] h

pub code-none : (n : ℕ) → 30 ≤ n → code_name n ≡ []
unfolding bytes code_name code_names
code-none n h = get_or-eq_default code_names [] h

-- ---- the names one after another, and where each ends
unfoldable pub ends_from : ℕ → List (List ℕ) → List ℕ
ends_from at [] = at ∷ []
ends_from at (k ∷ ks) = at ∷ ends_from (at + length k) ks

named-length : (names ends : List ℕ) (i j : ℕ) → Named names ends i j → length (named names ends i j) ≡ get_or ends j 0 - get_or ends i 0
named-length names ends i j n =
    let a = n.ordered in
    let b = n.inside in
    let l = length-drop (get_or ends i 0) names in
    length-take-le (get_or ends j 0 - get_or ends i 0) (drop (get_or ends i 0) names) (omega (arith, a, b, l))

module _ (names ends : List ℕ) (ks : List (List ℕ)) (n at m : ℕ) (r : right names ends ks ≡ true) (s : short 29 ks ≡ true) (h : n < length ks) where
  pub fits-at : at + 29 ≤ m → Named names ends n (n + 1) × (at + (get_or ends (n + 1) 0 - get_or ends n 0) ≤ m)
  fits-at f =
      let e = named-at names ends ks n r h in
      let l = named-length names ends n (n + 1) e.0 in
      let k = ap (length {A = ℕ}) e.1 in
      let w = short-at 29 ks n s in
      (e.0, omega (arith, l, k, w, f))

abbrev pub kind_text : List ℕ
kind_text = join kind_names

abbrev pub kind_ends : List ℕ
kind_ends = ends_from 0 kind_names

abbrev pub code_text : List ℕ
code_text = join code_names

abbrev pub code_ends : List ℕ
code_ends = ends_from 0 code_names

module _ (n at m : ℕ) where
  pub kind_fits : n < 54 → at + 29 ≤ m → Named kind_text kind_ends n (n + 1) × (at + (get_or kind_ends (n + 1) 0 - get_or kind_ends n 0) ≤ m)
  unfolding bytes ends_from join kind_names right same short
  kind_fits h = fits-at kind_text kind_ends kind_names n at m refl refl h

  pub code_fits : n < 30 → at + 29 ≤ m → Named code_text code_ends n (n + 1) × (at + (get_or code_ends (n + 1) 0 - get_or code_ends n 0) ≤ m)
  unfolding bytes ends_from join code_names right same short
  code_fits h = fits-at code_text code_ends code_names n at m refl refl h

pub kind_named : (n : ℕ) → n < 54 → named kind_text kind_ends n (n + 1) ≡ kind_name n
unfolding bytes ends_from join kind_name kind_names right same
kind_named n h = (named-at kind_text kind_ends kind_names n refl h).1

pub code-named : (n : ℕ) → n < 30 → named code_text code_ends n (n + 1) ≡ code_name n
unfolding bytes code_name ends_from join code_names right same
code-named n h = (named-at code_text code_ends code_names n refl h).1
