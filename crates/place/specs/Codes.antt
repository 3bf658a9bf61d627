-- WHICH CODES COME OUT of the reporter and of the way back: 11 and 12 alone.
use Rattle.std.specs.Prelude.{ℕ, Bool, true, false, cond, List, [], ◌∷◌, ltb, length, Result, Ok, Err}
use Rattle.std.proofs.Common.{arith, sym, ap, ◌∙◌}
use Rattle.std.proofs.Math.Path.{◌≡◌, refl}
use Rattle.utf8.specs.Utf8.{verdict}
use Rattle.record.specs.Checks.{checks, text_limit}
use Rattle.record.specs.Codes.{OneOf, among, each, new_codes, none_of}
use Rattle.record.specs.Numbers.{code_number}
use Rattle.record.specs.Records.{refusal}
use Rattle.record.specs.declared.Code.TheVariants.{NotUtf8, TooLong}
use Rattle.record.specs.declared.Refusal.{Refusal}
use Rattle.place.specs.Place.{answered, line_column, located, place_at, reported}
use Rattle.place.specs.Theorems.{refusals, well_formed}

abbrev pub place_codes : List ℕ
place_codes = 11 ∷ 12 ∷ []

abbrev pub never_place : List ℕ
never_place = 1 ∷ 2 ∷ 3 ∷ 4 ∷ 5 ∷ 6 ∷ 7 ∷ 8 ∷ 9 ∷ 10 ∷ 13 ∷ 14 ∷ 15 ∷ 16 ∷ 17 ∷ 18 ∷ 19 ∷ 20 ∷ new_codes

-- a refusal of the checks with no shift
pub unshifted : (s : List ℕ) (r : Refusal) → checks s 0 ≡ Err r → OneOf place_codes r.code
unfolding among
unshifted s r e = go (ltb text_limit (length s)) (verdict s) (sym (refusals s) ∙ e)
  where
    by : (q : Refusal) → ◌≡◌ {A = Result Unit Refusal} (Err q) (Err r) → OneOf place_codes q.code → OneOf place_codes r.code
    by q f h = let g : q ≡ r = cc in rw (← g) h

    go : (t : Bool) (v : Result Unit ℕ) → cond t (Err (refusal TooLong 0)) (well_formed v) ≡ Err r → OneOf place_codes r.code
    go true v f = by (refusal TooLong 0) f refl
    go false (Ok tt) f = let z : ◌≡◌ {A = ℕ} 0 1 = cc in absurd (omega arith)
    go false (Err p) f = by (refusal NotUtf8 p) f refl

-- what a refusal that is answered comes from
stopped : {A : Type 0} (s : List ℕ) (x y : A) (refused : Refusal → A) (r : Refusal) → (x ≡ y → ⊥) → ((q : Refusal) → refused q ≡ y → q ≡ r)
    → answered (checks s 0) x refused ≡ y → checks s 0 ≡ Err r
unfolding answered
stopped s x y refused r none same e = go (checks s 0) refl
  where
    go : (c : Result Unit Refusal) → checks s 0 ≡ c → checks s 0 ≡ Err r
    go (Ok tt) d = absurd (none (rw d at e))
    go (Err q) d = d ∙ ap Err (same q (rw d at e))

-- THE THEOREMS
module _ (s : List ℕ) (p : ℕ) (r : Refusal) (e : reported s p ≡ Err r) where
  pub place_codes_lem : OneOf place_codes r.code
  unfolding reported
  place_codes_lem =
      unshifted s r
      (stopped s (Ok (line_column s p)) (Err r) Err r (λ z. let w : ◌≡◌ {A = ℕ} 0 1 = cc in absurd (omega arith)) (λ q z. cc) e)

  pub place_never : among (code_number r.code) never_place ≡ false
  unfolding among each
  place_never = none_of place_codes never_place refl r.code place_codes_lem

module _ (s : List ℕ) (line column : ℕ) (r : Refusal) (e : located s line column ≡ Err r) where
  pub place_at-codes : OneOf place_codes r.code
  unfolding located
  place_at-codes =
      unshifted s r
      (stopped s (Ok (place_at s line column)) (Err r) Err r (λ z. let w : ◌≡◌ {A = ℕ} 0 1 = cc in absurd (omega arith)) (λ q z. cc) e)

  pub place_at_never : among (code_number r.code) never_place ≡ false
  unfolding among each
  place_at_never = none_of place_codes never_place refl r.code place_at-codes
