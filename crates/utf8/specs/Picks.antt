-- How a proof chooses among a definition's answers: what the code's branch knows decides the definition's test.
use Rattle.std.specs.Prelude.{ℕ, ◌≤◌, ◌<◌, ◌≡◌, refl, Bool, true, false, cond, ltb, eqb}
use Rattle.std.proofs.Common.{sym, ◌∙◌, arith, lt-ltb, le-ltb, eq-eqb, ne_eqb, ltb-true, ltb-false, leb-true, leb-false, eqb-true}
use Rattle.std.proofs.lemmas.Bool.{eqb-false}

module _ {A : Type 0} where
  pub pick_lt : (a b : ℕ) (r x y : A) → a < b → r ≡ x → r ≡ cond (ltb a b) x y
  pick_lt a b r x y h e = simp (lt-ltb a b h) e

  pub pick_ge : (a b : ℕ) (r x y : A) → b ≤ a → r ≡ y → r ≡ cond (ltb a b) x y
  pick_ge a b r x y h e = simp (le-ltb a b h) e

  pub pick_eq : (a b : ℕ) (r x y : A) → a ≡ b → r ≡ x → r ≡ cond (eqb a b) x y
  pick_eq a b r x y h e = simp (eq-eqb a b h) e

  pub pick_ne : (a b : ℕ) (r x y : A) → (a ≡ b → ⊥) → r ≡ y → r ≡ cond (eqb a b) x y
  pick_ne a b r x y h e = simp (ne_eqb a b h) e

  -- the same by a flag d that the code has of a test t
  pub pick_yes : (d t : Bool) (r x y : A) → d ≡ t → d ≡ true → r ≡ x → r ≡ cond t x y
  pick_yes d t r x y p q e = simp (sym p ∙ q) e

  pub pick_no : (d t : Bool) (r x y : A) → d ≡ t → d ≡ false → r ≡ y → r ≡ cond t x y
  pick_no d t r x y p q e = simp (sym p ∙ q) e

  pub same : (x : A) → x ≡ x
  same x = refl

pub ruleset picks = (pick_lt, pick_ge, pick_eq, pick_ne, same)

pub ruleset flags = (picks, pick_yes, pick_no)

-- what holds of both answers holds of the one that a test picks
module _ {A : Type 0} (P : A → Type 0) where
  pub by_test : (t : Bool) (x y : A) → (t ≡ true → P x) → (t ≡ false → P y) → P (cond t x y)
  by_test true x y f g = f refl
  by_test false x y f g = g refl

-- the tests, as `omega` reads them
pub ruleset tests = (arith, ltb-true, ltb-false, leb-true, leb-false, eqb-true, eqb-false)
