-- What the expander's branches leave, from what the first pass measured.
use Rattle.std.specs.Prelude.{Ok, Err, Result}
use mathlib.Core.Path.{◌≡◌, refl}
use mathlib.Core.Bool.{Bool, true, false, cond}
use mathlib.Core.List.{List, ◌++◌, append-nil}
use Prim.Native.Nat.{ℕ, ◌+◌, ◌-◌, ◌≤◌}
use native.Mathlib.Omega.{arith}
use lib.Dec.{ltb}
use lib.ListN.{length, take, drop, length-drop, drop_of_length-le}
use lib.Seq.{take_all, drop-drop}
use borrow.Author.Tests.{le-leb, ltb-false}
use borrow.Rule.Slice.PartMut.{put_mid}
use Rattle.utf8.specs.Utf8.{verdict}
use Rattle.utf8.specs.Chars.{'backslash}
use Rattle.record.specs.declared.Refusal.{Refusal}
use Rattle.record.specs.declared.Code.TheVariants.{NoRoom, TooLong, ShiftTooLarge}
use Rattle.record.specs.Records.{refusal}
use Rattle.record.specs.Checks.{checks, check_utf8, text_limit, shift_limit}
use Rattle.escapes.specs.declared.Held.TheVariants.{Text, Buffer}
use Rattle.escapes.specs.Escapes.{Outcome, gives, refused, expand, has_byte}
use Rattle.escapes.specs.Answers.{part, expanded}
use Rattle.escapes.specs.Passes.{Readable, measured, fits, over}
use Rattle.escapes.specs.declared.Part.{Part}

-- the first pass tells the outcome
whole : (o : Outcome) (n : ℕ) → measured o ≡ Ok n → (l : List ℕ) × (o ≡ gives l) × (length l ≡ n)
whole (gives l) n e = (l, refl, cc)
whole (refused r) n e = let z : ◌≡◌ {A = ℕ} 0 1 = cc in let w : ⊥ = omega arith in absurd w

broken : (o : Outcome) (r : Refusal) → measured o ≡ Err r → o ≡ refused r
broken (gives l) r e = cc
broken (refused q) r e = cc

-- the answer r and the buffer d' are those of the text s at a place of the buffer d
abbrev pub Ends : List ℕ → ℕ → List ℕ → ℕ → Result Part Refusal → List ℕ → Type 0
Ends s idx0 d place r d' = (r ≡ (expanded s idx0 d place).answer) × (d' ≡ (expanded s idx0 d place).buffer)

module _ (s : List ℕ) (idx0 : ℕ) (d : List ℕ) (place : ℕ) where
  pub as_text : has_byte 'backslash s ≡ false → Ends s idx0 d place (Ok (part Text 0 (length s))) d
  unfolding expanded
  as_text h = (rw h, rw h)

  pub as_refused : (r : Refusal) → has_byte 'backslash s ≡ true → measured (expand s idx0) ≡ Err r → Ends s idx0 d place (Err r) d
  unfolding expanded
  as_refused r h e = (rw (h, broken (expand s idx0) r e), rw (h, broken (expand s idx0) r e))

  pub no_room : (n : ℕ) → has_byte 'backslash s ≡ true → measured (expand s idx0) ≡ Ok n → ltb (length d) (place + n) ≡ true
      → Ends s idx0 d place (Err (refusal NoRoom idx0)) d
  unfolding expanded
  no_room n h e l = let w = whole (expand s idx0) n e in go w.0 w.1 w.2
    where
      go : (b : List ℕ) → expand s idx0 ≡ gives b → length b ≡ n → Ends s idx0 d place (Err (refusal NoRoom idx0)) d
      go b p r = let f : ltb (length d) (place + length b) ≡ true = rw r l in (rw (h, p, f), rw (h, p, f))

  pub has_room : (n : ℕ) → measured (expand s idx0) ≡ Ok n → place + n ≤ length d
      → fits (expand s idx0) (length (take (length d - place) (drop place d))) ≡ true
  has_room n e l =
      let w = whole (expand s idx0) n e in
      rw (w.1, take_all (length d - place) (drop place d) (omega (arith, length-drop place d)))
      (le-leb (length w.0) (length (drop place d)) (omega (arith, length-drop place d)))

  put : (l : List ℕ) → place ≤ length d
      → put_mid place (length d - place) d (l ++ drop (length l) (take (length d - place) (drop place d)))
      ≡ take place d ++ (l ++ drop (place + length l) d)
  put l h =
      rw (
        take_all (length d - place) (drop place d) (omega (arith, length-drop place d)),
        drop_of_length-le (drop place d) {i = length d - place} (omega (arith, length-drop place d)),
        append-nil (l ++ drop (length l) (drop place d)),
        drop-drop (length l) place d,
      )

  pub as_written : (n : ℕ) (y : List ℕ) → has_byte 'backslash s ≡ true → measured (expand s idx0) ≡ Ok n
      → ltb (length d) (place + n) ≡ false → y ≡ over (expand s idx0) (take (length d - place) (drop place d))
      → Ends s idx0 d place (Ok (part Buffer place (place + n))) (put_mid place (length d - place) d y)
  unfolding expanded
  as_written n y h e l q = let w = whole (expand s idx0) n e in go w.0 w.1 w.2
    where
      go : (b : List ℕ) → expand s idx0 ≡ gives b → length b ≡ n
          → Ends s idx0 d place (Ok (part Buffer place (place + n))) (put_mid place (length d - place) d y)
      go b p r =
          let f : ltb (length d) (place + length b) ≡ false = rw r l in
          let g = ltb-false (length d) (place + n) l in
          (rw (h, p, f, r), rw (h, p, f) (rw (q, p) (put b (omega arith))))

-- what passed the checks may be read
pub readable : (s : List ℕ) (idx0 : ℕ) → checks s idx0 ≡ Ok tt → Readable s idx0
unfolding checks
readable s idx0 e = go (ltb text_limit (length s)) refl (ltb shift_limit (idx0 + length s)) refl e
  where
    go : (t : Bool) → ltb text_limit (length s) ≡ t → (u : Bool) → ltb shift_limit (idx0 + length s) ≡ u
        → cond t (Err (refusal TooLong 0)) (cond u (Err (refusal ShiftTooLarge 0)) (check_utf8 idx0 (verdict s))) ≡ Ok tt
        → Readable s idx0
    go true p u q f = let z : ◌≡◌ {A = ℕ} 0 1 = cc in absurd (omega arith)
    go false p true q f = let z : ◌≡◌ {A = ℕ} 0 1 = cc in absurd (omega arith)
    go false p false q f = record { short = ltb-false _ _ p; shift = ltb-false _ _ q }
