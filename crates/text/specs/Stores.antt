-- Stores into a buffer, backwards, and what they come to.
use Rattle.std.specs.Prelude.{ℕ, suc, ◌+◌, ◌-◌, ◌/◌, ◌%◌, ◌≤◌, ◌<◌, List, [], ◌∷◌, ◌≡◌, refl, get_or, length, set, take, Some, None}
use Rattle.std.proofs.Common.{arith, sym, ap, ◌∙◌, length-take-le, take_all, take-suc, le-ltb, lt-ltb}
use Rattle.std.proofs.lemmas.List.{set_comm}
use Rattle.std.proofs.lemmas.List.Edits.{sets, sets-eq}
use Rattle.record.specs.Stores.{sets_append}
use Rattle.text.specs.DigitLaws.{length_digits}
use Rattle.text.specs.Digits.{digits, digits_then, width}
use Rattle.text.specs.Lay.{lay}

module _ {A : Type 0} where
  -- a store before others, made after them
  pub set_before : (vs l : List A) (i j : ℕ) (x : A) → j < i → set (sets l i vs) j x ≡ sets (set l j x) i vs
  set_before [] l i j x h = refl
  set_before (v ∷ vs) l i j x h =
      set_before vs (set l i v) (suc i) j x (omega arith)
      ∙ ap (λ (m : List A). sets m (suc i) vs) (set_comm l i j v x (λ e. omega arith))

  -- one store more
  pub set_after : (d : List A) (at i : ℕ) (w : List A) (z : A) → i < length w → set (sets d at (take i w)) (at + i) (get_or w i z) ≡ sets d at (take (suc i) w)
  set_after d at i w z h =
      let e = length-take-le i w (omega arith) in
      let a = sets_append (take i w) (get_or w i z ∷ []) d at in
      ap (λ (k : ℕ). set (sets d at (take i w)) k (get_or w i z)) (omega (arith, e)) ∙ sym a ∙ ap (sets d at) (sym (take-suc w i z h))

-- ---- words, byte by byte
pub stored_on : (d : List ℕ) (at i : ℕ) (w out : List ℕ) → out ≡ sets d at (take i w) → i < length w → set out (at + i) (get_or w i 0) ≡ sets d at (take (i + 1) w)
stored_on d at i w out e h =
    let f : suc i ≡ i + 1 = omega arith in
    ap (λ (x : List ℕ). set x (at + i) (get_or w i 0)) e ∙ set_after d at i w 0 h ∙ ap (λ (k : ℕ). sets d at (take k w)) f

pub stored_all : (d : List ℕ) (at i : ℕ) (w out : List ℕ) → out ≡ sets d at (take i w) → i ≤ length w → length w ≤ i → (at + i ≡ at + length w) × (out ≡ sets d at w)
stored_all d at i w out e h l = (omega (arith, h, l), e ∙ ap (sets d at) (take_all i w l))

-- ---- bytes at a place
pub lay_full : (d l : List ℕ) (at : ℕ) → length d < at + length l → (None ≡ (lay d (Some at) l).to) × (d ≡ (lay d (Some at) l).held)
unfolding lay
lay_full d l at h = let e = lt-ltb (length d) (at + length l) h in (rw e, rw e)

pub lay-fit : (d l : List ℕ) (at : ℕ) → at + length l ≤ length d → (Some (at + length l) ≡ (lay d (Some at) l).to) × (sets d at l ≡ (lay d (Some at) l).held)
unfolding lay
lay-fit d l at h = let e = le-ltb (length d) (at + length l) h in (rw e, rw e (sets-eq l d at h))

-- ---- digits, from the last to the first: those written stand in acc
pub record Writing (d : List ℕ) (at n : ℕ) (out : List ℕ) (i m : ℕ) : Type 0 where
  pub acc : List ℕ
  pub rest : digits_then (i - at) m acc ≡ digits n
  pub held : out ≡ sets d i acc
  pub begun : at ≤ i
  pub within : i + length acc ≤ length d

pub writing_first : (d : List ℕ) (at n e : ℕ) → e ≡ at + width n → at + length (digits n) ≤ length d → Writing d at n d e n
unfolding digits
writing_first d at n e q h =
    let w : e - at ≡ width n = omega (arith, q) in
    let l = length_digits n in
    record { acc = []; rest = ap (λ (k : ℕ). digits_then k n []) w; held = refl; begun = omega (arith, q); within = omega (arith, q, l, h) }

pub writing_on : (d : List ℕ) (at n : ℕ) (out : List ℕ) (i m : ℕ) → Writing d at n out i m → at < i → Writing d at n (set out (i - 1) (48 + m % 10)) (i - 1) (m / 10)
unfolding digits_then
writing_on d at n out i m w h =
    let e : i - at ≡ suc (i - 1 - at) = omega arith in
    let f : suc (i - 1) ≡ i = omega arith in
    let r = rw e at w.rest in
    record {
      acc = (48 + m % 10) ∷ w.acc;
      rest = r;
      held = ap (λ (x : List ℕ). set x (i - 1) (48 + m % 10)) w.held ∙ set_before w.acc d i (i - 1) (48 + m % 10) (omega arith) ∙ ap (λ (k : ℕ). sets (set d (i - 1) (48 + m % 10)) k w.acc) (sym f);
      begun = omega arith;
      within = omega (arith, w.within);
    }

pub writing_last : (d : List ℕ) (at n : ℕ) (out : List ℕ) (i m : ℕ) → Writing d at n out i m → i ≤ at → out ≡ sets d at (digits n)
unfolding digits_then
writing_last d at n out i m w h =
    let e : i - at ≡ 0 = omega arith in
    let f : i ≡ at = omega (arith, w.begun) in
    let r = rw e at w.rest in
    w.held ∙ ap (λ (k : ℕ). sets d k w.acc) f ∙ ap (sets d at) r

pub lay_shut : (d l : List ℕ) → (None ≡ (lay d None l).to) × (d ≡ (lay d None l).held)
unfolding lay
lay_shut d l = (refl, refl)
