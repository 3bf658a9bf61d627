-- What a text that passed the checks is known to be.
use Rattle.std.specs.Prelude.{ℕ, ◌+◌, ◌≤◌, Bool, true, false, List, ◌≡◌, refl, ltb, length, Result, Ok, Err}
use Rattle.std.proofs.Common.{arith, ◌∙◌}
use Rattle.utf8.specs.Picks.{tests}
use Rattle.utf8.specs.Utf8.{verdict}
use Rattle.record.specs.Checks.{check_utf8, checks, shift_limit, text_limit}
use Rattle.record.specs.declared.Refusal.{Refusal}

pub record Allowed (s : List ℕ) (shift : ℕ) : Type 0 where
  pub short : length s ≤ text_limit
  pub fits : shift + length s ≤ shift_limit
  pub valid : verdict s ≡ Ok tt

no : {A : Type 0} (r : Refusal) → ◌≡◌ {A = Result Unit Refusal} (Err r) (Ok tt) → A
no r e = let z : ◌≡◌ {A = ℕ} 0 1 = cc in absurd (omega arith)

valid_of : (shift : ℕ) (v : Result Unit ℕ) → check_utf8 shift v ≡ (Ok tt) → v ≡ Ok tt
valid_of shift (Ok tt) e = refl
valid_of shift (Err p) e = no _ e

pub allowed : (s : List ℕ) (shift : ℕ) → checks s shift ≡ (Ok tt) → Allowed s shift
unfolding checks
allowed s shift e = go (ltb text_limit (length s)) (ltb shift_limit (shift + length s)) refl refl
  where
    go : (t u : Bool) → ltb text_limit (length s) ≡ t → ltb shift_limit (shift + length s) ≡ u → Allowed s shift
    go true u p q = no _ (rw p at e)
    go false true p q = no _ (rw (p, q) at e)
    go false false p q = record { short = omega tests; fits = omega tests; valid = valid_of shift (verdict s) (rw (p, q) at e) }
