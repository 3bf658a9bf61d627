-- WHICH CODES A PART ANSWERS: what all parts need to say it, and the checks' own.
use Rattle.std.specs.Prelude.{ℕ, Bool, ◌&&◌, ◌||◌, cond, false, not, true, List, [], ◌∷◌, ◌≡◌, refl, eqb, Result, Ok, Err}
use Rattle.std.proofs.Common.{arith, sym, eqb-true}
use Rattle.utf8.specs.Laws.{both}
use Rattle.utf8.specs.Picks.{by_test}
use Rattle.record.specs.Checks.{check_utf8, checks}
use Rattle.record.specs.Numbers.{code_number}
use Rattle.record.specs.Records.{refusal}
use Rattle.record.specs.declared.Code.{Code}
use Rattle.record.specs.declared.Code.TheVariants.{NotUtf8, ShiftTooLarge, TooLong}
use Rattle.record.specs.declared.Refusal.{Refusal}

-- a number is one of these
unfoldable pub among : ℕ → List ℕ → Bool
among n [] = false
among n (m ∷ ms) = eqb n m || among n ms

abbrev pub OneOf : List ℕ → Code → Type 0
OneOf ns c = among (code_number c) ns ≡ true

-- 02's nine numbers: the sheet answers 21 (02, E2), the reading 22 and 23 (02, E3), no part another of them yet
abbrev pub new_codes : List ℕ
new_codes = 21 ∷ 22 ∷ 23 ∷ 24 ∷ 25 ∷ 26 ∷ 27 ∷ 28 ∷ 29 ∷ []

-- ---- a test that each number of a list passes is passed by one that is among them
unfoldable pub each : (ℕ → Bool) → List ℕ → Bool
each test [] = true
each test (n ∷ ns) = test n && each test ns

pub one_of : (test : ℕ → Bool) (n : ℕ) (ns : List ℕ) → each test ns ≡ true → among n ns ≡ true → test n ≡ true
unfolding among each
one_of test n [] h e = let w : ◌≡◌ {A = ℕ} 0 1 = cc in absurd (omega arith)
one_of test n (m ∷ ns) h e = let b = both (test m) (each test ns) h in go (eqb n m) refl b.0 (λ w. one_of test n ns b.1 w)
  where
    go : (b : Bool) → eqb n m ≡ b → test m ≡ true → (among n ns ≡ true → test n ≡ true) → test n ≡ true
    go true q p f = rw (eqb-true n m q) p
    go false q p f = f (rw q at e)

pub not-true : (b : Bool) → not b ≡ true → b ≡ false
not-true true e = sym e
not-true false e = refl

-- so of two lists with no number in common, a code that is one of the first is none of the second
abbrev pub Apart : List ℕ → List ℕ → Type 0
Apart ms ns = each (λ (n : ℕ). not (among n ns)) ms ≡ true

pub none_of : (ms ns : List ℕ) → Apart ms ns → (c : Code) → OneOf ms c → among (code_number c) ns ≡ false
none_of ms ns a c h = not-true _ (one_of (λ n. not (among n ns)) (code_number c) ms a h)

-- ---- a check of one test refuses for one reason
pub refused_for : (t : Bool) (q r : Refusal) → cond {A = Result Unit Refusal} t (Ok tt) (Err q) ≡ Err r → r.code ≡ q.code
refused_for true q r e = let w : ◌≡◌ {A = ℕ} 0 1 = cc in absurd (omega arith)
refused_for false q r e = cc

-- ---- the checks refuse for 12, 13 and 11: what holds of these codes holds of every refusal of theirs
abbrev pub RefusesIn : (Code → Type 0) → Result Unit Refusal → Type 0
RefusesIn Q (Ok tt) = Unit {0}
RefusesIn Q (Err r) = Q r.code

pub record Refuses (Q : Code → Type 0) (x : Result Unit Refusal) : Type 0 where
  pub is : RefusesIn Q x

module _ (Q : Code → Type 0) where
  refuses_stop : (code : Code) (place : ℕ) → Q code → Refuses Q (Err (refusal code place))
  refuses_stop code place e = record { is = e }

  refuses_text : (shift : ℕ) (v : Result Unit ℕ) → Q NotUtf8 → Refuses Q (check_utf8 shift v)
  refuses_text shift (Ok tt) e = record { is = tt }
  refuses_text shift (Err p) e = record { is = e }

  pub checks-refuse : Q TooLong → Q ShiftTooLarge → Q NotUtf8 → (s : List ℕ) (shift : ℕ) → Refuses Q (checks s shift)
  unfolding checks
  checks-refuse long large text s shift = search (by_test (Refuses Q), refuses_stop, refuses_text)
