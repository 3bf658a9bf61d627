-- The cases of an answer, and what reading it gives: for the laws in Theorems.
use Rattle.std.specs.Prelude.{◌≡◌, refl, false, List, ◌++◌, ℕ, ◌+◌, ◌-◌, ◌≤◌, ltb, take, drop, Result, Ok, Err}
use Rattle.std.proofs.Common.{sym, ap, ◌∙◌, length-append, length-drop, length-take-le, drop_at, take_all, drop-drop}
use native.Mathlib.Omega.{arith}
use Rattle.std.proofs.Math.ListN.{length}
use Rattle.std.proofs.Math.Seq.{drop-append_seam, take-append_seam}
use borrow.Author.Tests.{le-leb, ltb-false}
use Rattle.utf8.specs.Chars.{'backslash}
use Rattle.utf8.specs.Picks.{by_test}
use Rattle.record.specs.declared.Refusal.{Refusal}
use Rattle.record.specs.declared.Code.TheVariants.{NoRoom}
use Rattle.record.specs.Records.{refusal}
use Rattle.record.specs.Checks.{checks}
use Rattle.escapes.specs.declared.Held.TheVariants.{Text}
use Rattle.escapes.specs.declared.Part.{Part}
use Rattle.escapes.specs.Escapes.{Outcome, gives, refused, expand, has_byte}
use Rattle.escapes.specs.Answers.{part, Done, refuse, write, fit, expanded, checked, applied, cut, range_check}

-- What holds of a refusal, of an answer in the text and of one in the buffer holds of every answer.
module _ (s : List ℕ) (idx0 : ℕ) (d : List ℕ) (place : ℕ) (P : Done → Type 0) (no : (r : Refusal) → P (refuse r d))
    (plain : has_byte 'backslash s ≡ false → P (record { answer = Ok (part Text 0 (length s)); buffer = d }))
    (put : (l : List ℕ) → expand s idx0 ≡ gives l → place + length l ≤ length d → P (write place l d)) where
  by_fit : (o : Outcome) → expand s idx0 ≡ o → P (fit idx0 d place o)
  by_fit (gives l) e =
      by_test P (ltb (length d) (place + length l)) (refuse (refusal NoRoom idx0) d) (write place l d) (λ t. no _)
      (λ t. put l e (ltb-false _ _ t))
  by_fit (refused r) e = no r

  by_expanded : P (expanded s idx0 d place)
  unfolding expanded
  by_expanded =
      by_test P (has_byte 'backslash s) (fit idx0 d place (expand s idx0)) _ (λ t. by_fit (expand s idx0) refl) plain

  pub by_answer : P (applied s idx0 d place)
  unfolding applied
  by_answer = go (checks s idx0)
    where
      go : (k : Result Unit Refusal) → P (checked k (expanded s idx0 d place) d)
      go (Ok tt) = by_expanded
      go (Err r) = no r

pub part-is : (q p : Part) → ◌≡◌ {A = Result Part Refusal} (Ok q) (Ok p) → q ≡ p
part-is q p e = cc

-- a list l laid over d at a place
module _ (place : ℕ) (l d : List ℕ) (m : place + length l ≤ length d) where
  abbrev pub laid : List ℕ
  laid = take place d ++ (l ++ drop (place + length l) d)

  front : length (take place d) ≡ place
  front = length-take-le place d (omega arith)

  laid_from : drop place laid ≡ l ++ drop (place + length l) d
  laid_from = drop_at (take place d) (l ++ drop (place + length l) d) place front

  pub laid-after : drop (place + length l) laid ≡ drop (place + length l) d
  laid-after =
      sym (drop-drop (length l) place laid) ∙ ap (drop (length l)) laid_from ∙ drop-append_seam l (drop (place + length l) d)

  pub laid-length : length laid ≡ length d
  laid-length = simp (length-append, front, length-drop) (omega arith)

  pub laid-part : cut laid place (place + length l) ≡ l
  unfolding cut
  laid-part =
      let n = laid-length in
      let e : place + length l - place ≡ length l = omega arith in
      rw (le-leb place (place + length l) (omega arith), le-leb (place + length l) (length laid) (omega arith), e, laid_from)
      (take-append_seam l (drop (place + length l) d))

  pub laid_check : range_check (length laid) place (place + length l) ≡ Ok tt
  unfolding range_check
  laid_check =
      let n = laid-length in
      rw (le-leb place (place + length l) (omega arith), le-leb (place + length l) (length laid) (omega arith))

module _ (s : List ℕ) where
  pub all_part : cut s 0 (length s) ≡ s
  unfolding cut
  all_part = rw (le-leb 0 (length s) (omega arith), le-leb (length s) (length s) (omega arith)) (take_all (length s - 0) s (omega arith))

  pub all_check : range_check (length s) 0 (length s) ≡ Ok tt
  unfolding range_check
  all_check = rw (le-leb 0 (length s) (omega arith), le-leb (length s) (length s) (omega arith))
