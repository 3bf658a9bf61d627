-- What is true of every expansion.
use Rattle.std.specs.Prelude.{◌≡◌, refl, false, List, ℕ, ◌≤◌, length, take, drop, Ok, Err}
use Rattle.std.proofs.Common.{sym, ap, ◌∙◌, add-zero, arith, length-take-le, take_at, eq-eqb}
use Rattle.utf8.specs.Utf8.{verdict, reach, chars}
use Rattle.utf8.specs.Laws.{Whole, valid_whole}
use Rattle.utf8.specs.Chars.{'backslash}
use Rattle.record.specs.declared.Refusal.{Refusal}
use Rattle.escapes.specs.declared.Part.{Part}
use Rattle.escapes.specs.Escapes.{gives, expand, has_byte}
use Rattle.escapes.specs.Answers.{applied, part_of, part_check}
use Rattle.escapes.specs.Laws.{plain-from, short-from}
use Rattle.escapes.specs.Laid.{by_answer, part-is, laid-after, laid-length, laid-part, laid_check, all_part, all_check}
use Rattle.escapes.specs.Formed.{formed}
use Rattle.escapes.specs.Characters.{spell, in_characters}
use Rattle.escapes.specs.Spelled.{agree, found}

-- A text without a backslash is its own expansion.
pub unescaped : (s : List ℕ) (idx0 : ℕ) → has_byte 'backslash s ≡ false → expand s idx0 ≡ gives s
unfolding expand
unescaped s idx0 h = plain-from s idx0 h

-- An expansion is never longer than its text.
pub never_longer : (s : List ℕ) (idx0 : ℕ) (l : List ℕ) → expand s idx0 ≡ gives l → length l ≤ length s
unfolding expand
never_longer s idx0 l e = short-from 0 s idx0 l e

-- The expansion of a well_formed_lem text is well formed.
pub well_formed_lem : (s : List ℕ) (idx0 : ℕ) (l : List ℕ) → verdict s ≡ Ok tt → expand s idx0 ≡ gives l → verdict l ≡ Ok tt
unfolding expand
well_formed_lem s idx0 l v e =
    let o : Whole l 0 = formed s idx0 (length s) 0 (omega arith) (omega arith) (valid_whole s v) l (rw (add-zero idx0) e) in
    rw (eq-eqb (reach (chars l) 0) (length l) o)

-- Read as characters, the expansion of a well_formed_lem text is what the Rust makes of the text's characters.
pub spelled : (s : List ℕ) (idx0 : ℕ) → verdict s ≡ Ok tt → in_characters (expand s idx0) ≡ spell (chars s) idx0
unfolding expand spell
spelled s idx0 v = rw (add-zero idx0) at (agree s idx0 (length s) 0 (omega arith) (omega arith) (valid_whole s v))

-- And it has a backslash among its bytes exactly if it has one among its characters.
pub backslash : (s : List ℕ) → verdict s ≡ Ok tt → has_byte 'backslash (chars s) ≡ has_byte 'backslash s
backslash s v = found s (length s) 0 (omega arith) (omega arith) (valid_whole s v)

module _ (s : List ℕ) (idx0 : ℕ) (d : List ℕ) (place : ℕ) where
  -- A refusal writes nothing.
  pub nothing_written : (r : Refusal) → (applied s idx0 d place).answer ≡ Err r → (applied s idx0 d place).buffer ≡ d
  nothing_written =
      by_answer s idx0 d place (λ o. (r : Refusal) → o.answer ≡ Err r → o.buffer ≡ d) (λ q r e. refl) (λ h r e. refl)
      (λ l h m r e. cc)

  -- The bytes before the place stay, and so do those after the part that the answer names.
  pub before-stays : take place (applied s idx0 d place).buffer ≡ take place d
  before-stays =
      by_answer s idx0 d place (λ o. take place o.buffer ≡ take place d) (λ r. refl) (λ h. refl)
      (λ l h m. take_at (take place d) _ place (length-take-le place d (omega arith)))

  pub after-stays : (p : Part) → (applied s idx0 d place).answer ≡ Ok p → drop p.end (applied s idx0 d place).buffer ≡ drop p.end d
  after-stays =
      by_answer s idx0 d place (λ o. (p : Part) → o.answer ≡ Ok p → drop p.end o.buffer ≡ drop p.end d)
      (λ q p e. refl) (λ h p e. refl) (λ l h m p e. rw (← (part-is _ p e)) (laid-after place l d m))

  pub same_length : length (applied s idx0 d place).buffer ≡ length d
  same_length = by_answer s idx0 d place (λ o. length o.buffer ≡ length d) (λ r. refl) (λ h. refl) (λ l h m. laid-length place l d m)

  -- The reader answers with the expansion, and its check passes.
  pub reads-back : (p : Part) → (applied s idx0 d place).answer ≡ Ok p
      → (expand s idx0 ≡ gives (part_of s (applied s idx0 d place).buffer p)) × (part_check s (applied s idx0 d place).buffer p ≡ Ok tt)
  reads-back =
      by_answer s idx0 d place
      (λ o. (p : Part) → o.answer ≡ Ok p → (expand s idx0 ≡ gives (part_of s o.buffer p)) × (part_check s o.buffer p ≡ Ok tt))
      (λ r p e. let z : ◌≡◌ {A = ℕ} 0 1 = cc in absurd (omega arith))
      (λ h p e. rw (← (part-is _ p e)) (unescaped s idx0 h ∙ ap gives (sym (all_part s)), all_check s))
      (λ l h m p e. rw (← (part-is _ p e)) (h ∙ ap gives (sym (laid-part place l d m)), laid_check place l d m))
