-- WHICH CODES COME OUT of a sheet: 11, 12, 14, 20 and 21 where a text is refused; 2, 5, 6, 8, 9, 10, 15, 22 and 23 are tallied (`text_tallied`, proofs/Theorems.antt).
use Rattle.std.specs.Prelude.{ℕ, Bool, List, [], ◌∷◌, ◌≡◌, get_or, length, Result, Ok, Err}
use Rattle.std.proofs.Common.{arith}
use Rattle.std.proofs.Math.Bool.{false, true}
use Rattle.std.proofs.Math.Path.{refl}
use Rattle.std.proofs.Math.Dec.{leb, ltb}
use Rattle.record.specs.Checks.{checks}
use Rattle.record.specs.Codes.{OneOf, among, each, none_of, one_of}
use Rattle.record.specs.Numbers.{code_number}
use Rattle.record.specs.Records.{refusal}
use Rattle.record.specs.declared.Code.TheVariants.{BadRecord, NoRoom, SheetFull}
use Rattle.record.specs.declared.Refusal.{Refusal}
use Rattle.place.specs.Codes.{place_codes, unshifted}
use Rattle.reading.specs.declared.Outcome.{Outcome}
use Rattle.reading.specs.declared.Outcome.TheVariants.{Ended, Refused as Failed, Running}
use Rattle.sheet.specs.Adds.{sheet_size, story, texts_taken}
use Rattle.sheet.specs.Sheet.{is_sheet, most_texts, taken, taken_as}
use Rattle.sheet.specs.declared.Taken.TheVariants.{Refused}

abbrev pub take_codes : List ℕ
take_codes = 11 ∷ 12 ∷ 14 ∷ 20 ∷ 21 ∷ []

abbrev pub never_take : List ℕ
never_take = 1 ∷ 2 ∷ 3 ∷ 4 ∷ 5 ∷ 6 ∷ 7 ∷ 8 ∷ 9 ∷ 10 ∷ 13 ∷ 15 ∷ 16 ∷ 17 ∷ 18 ∷ 19 ∷ 22 ∷ 23 ∷ 24 ∷ 25 ∷ 26 ∷ 27 ∷ 28 ∷ 29 ∷ []

module _ (s sheet : List ℕ) (r : Refusal) (e : taken s sheet ≡ Refused r) where
  by : (q : Refusal) → Refused q ≡ Refused r → OneOf take_codes q.code → OneOf take_codes r.code
  by q f h = let g : q ≡ r = cc in rw (← g) h

  -- the checks' own
  checked : (q : Refusal) → checks s 0 ≡ Err q → OneOf take_codes q.code
  unfolding among each
  checked q p = one_of (λ n. among n take_codes) (code_number q.code) place_codes refl (unshifted s q p)

  none : {A : Type 0} (how : Outcome) → taken_as how ≡ Refused r → A
  none Ended f = let w : ◌≡◌ {A = ℕ} 0 1 = cc in absurd (omega arith)
  none (Failed z) f = let w : ◌≡◌ {A = ℕ} 0 1 = cc in absurd (omega arith)
  none Running f = let w : ◌≡◌ {A = ℕ} 0 1 = cc in absurd (omega arith)

  pub take-codes : OneOf take_codes r.code
  unfolding taken among
  take-codes = go (ltb (length sheet) sheet_size) refl (checks s 0) refl (leb most_texts (get_or sheet texts_taken 0)) refl (is_sheet sheet) refl
    where
      go : (a : Bool) → ltb (length sheet) sheet_size ≡ a → (c : Result Unit Refusal) → checks s 0 ≡ c → (b : Bool) → leb most_texts (get_or sheet texts_taken 0) ≡ b
          → (d : Bool) → is_sheet sheet ≡ d → OneOf take_codes r.code
      go true p c q b u d v = by (refusal NoRoom 0) (rw p at e) refl
      go false p (Err z) q b u d v = by z (rw (p, q) at e) (checked z q)
      go false p (Ok tt) q true u d v = by (refusal SheetFull 0) (rw (p, q, u) at e) refl
      go false p (Ok tt) q false u true v = none (story s).how (rw (p, q, u, v) at e)
      go false p (Ok tt) q false u false v = by (refusal BadRecord 0) (rw (p, q, u, v) at e) refl

  pub take_never : among (code_number r.code) never_take ≡ false
  unfolding among each
  take_never = none_of take_codes never_take refl r.code take-codes
