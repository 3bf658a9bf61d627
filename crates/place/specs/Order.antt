-- Over characters: line and column never fall as more characters stand before the place, and both are small.
use Rattle.std.specs.Prelude.{ℕ, zero, suc, ◌+◌, ◌-◌, ◌≤◌, ◌<◌, ◌≡◌, refl, Bool, true, false, cond, List, [], ◌∷◌, ltb, length, Result, Ok, Err}
use Rattle.std.proofs.Common.{sym, ap, arith, le-ltb, lt-ltb}
use Rattle.utf8.proofs.Laws.{bad_place}
use Rattle.utf8.specs.Laws.{valid_whole}
use Rattle.utf8.specs.Picks.{by_test, tests}
use Rattle.utf8.specs.Utf8.{chars, reach, verdict, width_of}
use Rattle.place.specs.Place.{before, ends, line_column, lines_ended, units, units_since}

-- a character has one byte at least, and a byte for each of its units
abbrev pub Wide : ℕ → ℕ → Type 0
Wide c w = (1 ≤ w) × (units c ≤ w)

pub wide : (c : ℕ) → Wide c (width_of c)
unfolding units width_of
wide c =
    let two : units c ≤ 2 = by_test (λ (u : ℕ). u ≤ 2) (ltb 0xFFFF c) 2 1 (λ e. omega arith) (λ e. omega arith) in
    let one : ltb c 0x80 ≡ true → units c ≤ 1 = λ f. by_test (λ (u : ℕ). u ≤ 1) (ltb 0xFFFF c) 2 1 (λ e. absurd (omega tests)) (λ e. omega arith) in
    let far : Wide c (cond (ltb c 0x10000) 3 4) = by_test (Wide c) (ltb c 0x10000) 3 4 (λ f. (omega arith, omega (arith, two))) (λ f. (omega arith, omega (arith, two))) in
    by_test (Wide c) (ltb c 0x80) 1 _ (λ f. (omega arith, one f)) (λ f. by_test (Wide c) (ltb c 0x800) 2 _ (λ g. (omega arith, two)) (λ g. far))

pub reach_least : (cs : List ℕ) (at : ℕ) → at ≤ reach cs at
unfolding reach
reach_least [] at = omega arith
reach_least (c ∷ cs) at = omega (arith, reach_least cs (at + width_of c))

-- ---- the characters before a place
pub before_in : (p c : ℕ) (cs : List ℕ) → p < width_of c → before p (c ∷ cs) ≡ 0
unfolding before
before_in p c cs h = rw (lt-ltb p (width_of c) h)

pub before_on : (p c : ℕ) (cs : List ℕ) → width_of c ≤ p → before p (c ∷ cs) ≡ suc (before (p - width_of c) cs)
unfolding before
before_on p c cs h = rw (le-ltb p (width_of c) h)

pub before-first : (cs : List ℕ) → before 0 cs ≡ 0
unfolding before
before-first [] = refl
before-first (c ∷ cs) = before_in 0 c cs (wide c).0

-- further on there are no fewer
pub before_grows : (p q : ℕ) (cs : List ℕ) → p ≤ q → before p cs ≤ before q cs
unfolding before
before_grows p q [] h = omega arith
before_grows p q (c ∷ cs) h = go (ltb p (width_of c)) refl (before_grows (p - width_of c) (q - width_of c) cs (omega arith))
  where
    go : (t : Bool) → ltb p (width_of c) ≡ t → before (p - width_of c) cs ≤ before (q - width_of c) cs → before p (c ∷ cs) ≤ before q (c ∷ cs)
    go true e f = rw (before_in p c cs (omega tests)) (omega arith)
    go false e f = rw (before_on p c cs (omega tests), before_on q c cs (omega tests)) (omega arith)

-- at their end and beyond there are all
pub before_all : (p : ℕ) (cs : List ℕ) (at : ℕ) → reach cs at ≤ at + p → before p cs ≡ length cs
unfolding before reach
before_all p [] at h = refl
before_all p (c ∷ cs) at h =
    let l : at + width_of c ≤ reach cs (at + width_of c) = reach_least cs (at + width_of c) in
    rw (le-ltb p (width_of c) (omega arith)) (ap suc (before_all (p - width_of c) cs (at + width_of c) (omega arith)))

-- ---- the lines
pub lines_grow : (n m : ℕ) (cs : List ℕ) → n ≤ m → lines_ended n cs ≤ lines_ended m cs
unfolding lines_ended
lines_grow zero m cs h = omega arith
lines_grow (suc n) zero cs h = absurd (omega arith)
lines_grow (suc n) (suc m) [] h = omega arith
lines_grow (suc n) (suc m) (c ∷ cs) h = omega (arith, lines_grow n m cs (omega arith))

-- ---- the column, while no line ends
no_end : (t : Bool) (n : ℕ) → cond t 1 0 + n ≡ 0 → (t ≡ false) × (n ≡ 0)
no_end true n e = absurd (omega arith)
no_end false n e = (refl, omega arith)

pub units-on : (u n : ℕ) (cs : List ℕ) → lines_ended n cs ≡ 0 → u ≤ units_since u n cs
unfolding lines_ended units_since
units-on u zero cs e = omega arith
units-on u (suc n) [] e = omega arith
units-on u (suc n) (c ∷ cs) e =
    let o = no_end (ends c cs) (lines_ended n cs) e in
    rw o.0 (omega (arith, units-on (u + units c) n cs o.1))

pub units_grow : (u n m : ℕ) (cs : List ℕ) → n ≤ m → lines_ended n cs ≡ lines_ended m cs → units_since u n cs ≤ units_since u m cs
unfolding lines_ended units_since
units_grow u zero m cs h e = units-on u m cs (sym e)
units_grow u (suc n) zero cs h e = absurd (omega arith)
units_grow u (suc n) (suc m) [] h e = omega arith
units_grow u (suc n) (suc m) (c ∷ cs) h e = units_grow (cond (ends c cs) 0 (u + units c)) n m cs (omega arith) (omega arith)

-- ---- no line and no column is greater than the text's length
lines_few : (n : ℕ) (cs : List ℕ) (at : ℕ) → at + lines_ended n cs ≤ reach cs at
unfolding lines_ended reach
lines_few zero cs at = omega (arith, reach_least cs at)
lines_few (suc n) [] at = omega arith
lines_few (suc n) (c ∷ cs) at =
    let o : cond (ends c cs) 1 0 ≤ 1 = by_test (λ (k : ℕ). k ≤ 1) (ends c cs) 1 0 (λ e. omega arith) (λ e. omega arith) in
    omega (arith, lines_few n cs (at + width_of c), o, wide c)

units_few : (u n : ℕ) (cs : List ℕ) (at : ℕ) → u ≤ at → units_since u n cs ≤ reach cs at
unfolding units_since reach
units_few u zero cs at h = omega (arith, reach_least cs at)
units_few u (suc n) [] at h = h
units_few u (suc n) (c ∷ cs) at h =
    units_few (cond (ends c cs) 0 (u + units c)) n cs (at + width_of c)
    (by_test (λ (k : ℕ). k ≤ at + width_of c) (ends c cs) 0 (u + units c) (λ e. omega arith) (λ e. omega (arith, wide c)))

-- the characters' bytes are the text's
reach-most : (s : List ℕ) → reach (chars s) 0 ≤ length s
reach-most s = go (verdict s) refl
  where
    go : (v : Result Unit ℕ) → verdict s ≡ v → reach (chars s) 0 ≤ length s
    go (Ok tt) e = let h = valid_whole s e in omega arith
    go (Err p) e = omega (arith, bad_place s p e)

pub place_small : (s : List ℕ) (p : ℕ) → ((line_column s p).line ≤ length s) × ((line_column s p).column ≤ length s)
unfolding line_column
place_small s p =
    let m = reach-most s in
    (omega (arith, lines_few (before p (chars s)) (chars s) 0), omega (arith, units_few 0 (before p (chars s)) (chars s) 0 (omega arith)))
