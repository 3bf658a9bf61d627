-- The shapes of what readers answer, over places and numbers of characters passed.
use Rattle.std.specs.Prelude.{ℕ, ◌≡◌, Result, Ok, Err}
use Rattle.std.proofs.Common.{ap}
use Rattle.record.specs.declared.Refusal.{Refusal}

-- a place, with the characters passed on the way there: of what was sought, or of the end, where it is not found
abbrev pub Found : Type 0
Found = Result (ℕ × ℕ) (ℕ × ℕ)

-- a place, with the characters passed on the way there; or a refusal, with the cursor and the characters passed till then
abbrev pub Skip : Type 0
Skip = Result (ℕ × ℕ) (Refusal × ℕ × ℕ)

-- what the parts of two equal answers are
pub same_ok : {E : Type 0} (p m q n : ℕ) → ◌≡◌ {A = Result (ℕ × ℕ) E} (Ok (p, m)) (Ok (q, n)) → (p ≡ q) × (m ≡ n)
same_ok p m q n e = let x : ◌≡◌ {A = ℕ × ℕ} (p, m) (q, n) = cc in (ap (λ z. z.0) x, ap (λ z. z.1) x)

pub same_err : {A : Type 0} (p m q n : ℕ) → ◌≡◌ {A = Result A (ℕ × ℕ)} (Err (p, m)) (Err (q, n)) → (p ≡ q) × (m ≡ n)
same_err p m q n e = let x : ◌≡◌ {A = ℕ × ℕ} (p, m) (q, n) = cc in (ap (λ z. z.0) x, ap (λ z. z.1) x)

pub same_lost : {A : Type 0} (r s : Refusal) (p m q n : ℕ) → ◌≡◌ {A = Result A (Refusal × ℕ × ℕ)} (Err (r, p, m)) (Err (s, q, n)) → (r ≡ s) × (p ≡ q) × (m ≡ n)
same_lost r s p m q n e = let x : ◌≡◌ {A = Refusal × ℕ × ℕ} (r, p, m) (s, q, n) = cc in (ap (λ z. z.0) x, ap (λ z. z.1) x, ap (λ z. z.2) x)
