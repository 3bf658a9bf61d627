-- What the next character decides.
use Rattle.std.specs.Prelude.{◌<◌, ℕ, Bool, List, [], ◌∷◌, refl, eqb, length, Option, Some, None}
use Rattle.std.proofs.Common.{arith, ◌∙◌, sym}
use Rattle.std.proofs.Math.Bool.{cond, false, true}
use Rattle.std.proofs.Math.Path.{◌≡◌}
use Rattle.utf8.proofs.Laws.{seen}
use Rattle.utf8.specs.Laws.{Ended, Seen, ended}
use Rattle.utf8.specs.Picks.{same}
use Rattle.utf8.specs.Utf8.{sight_at}
use Rattle.scan.specs.Until.{left}

-- by the next character, if there is one
unfoldable pub if_next : {A : Type 0} → ℕ → List ℕ → A → A → A
if_next k [] x y = y
if_next k (c ∷ cs) x y = cond (eqb c k) x y

-- the next character, if there is one
module _ {s : List ℕ} {at : ℕ} where
  pub next-on : {A : Type 0} (k : ℕ) (x y : A) {c w : ℕ} → Seen s at c w → if_next k (left s at) x y ≡ cond (eqb c k) x y
  unfolding if_next
  next-on k x y h = rw h.next

  pub next-end : {A : Type 0} (k : ℕ) (x y : A) → Ended s at → if_next k (left s at) x y ≡ y
  unfolding if_next
  next-end k x y h = rw h.none

-- the next character's test as a flag: what the code's branch knows decides the definition
module _ {A : Type 0} (k : ℕ) (l : List ℕ) where
  pub next_yes : (d : Bool) (r x y : A) → d ≡ if_next k l true false → d ≡ true → r ≡ x → r ≡ if_next k l x y
  unfolding if_next
  next_yes d r x y p q e = go l (sym p ∙ q)
    where
      by : (t : Bool) → cond t true false ≡ true → r ≡ cond t x y
      by true h = e
      by false h = let z : ◌≡◌ {A = ℕ} 0 1 = cc in absurd (omega arith)

      go : (m : List ℕ) → if_next k m true false ≡ true → r ≡ if_next k m x y
      go [] h = let z : ◌≡◌ {A = ℕ} 0 1 = cc in absurd (omega arith)
      go (c ∷ m) h = by (eqb c k) h

  pub next-no : (d : Bool) (r x y : A) → d ≡ if_next k l true false → d ≡ false → r ≡ y → r ≡ if_next k l x y
  unfolding if_next
  next-no d r x y p q e = go l (sym p ∙ q)
    where
      by : (t : Bool) → cond t true false ≡ false → r ≡ cond t x y
      by true h = let z : ◌≡◌ {A = ℕ} 0 1 = cc in absurd (omega arith)
      by false h = e

      go : (m : List ℕ) → if_next k m true false ≡ false → r ≡ if_next k m x y
      go [] h = e
      go (c ∷ m) h = by (eqb c k) h

pub ruleset nexts = (next_yes, next-no, same)

-- where a next character is, there is room
pub next-room : (s : List ℕ) (at k : ℕ) → if_next k (left s at) true false ≡ true → at < length s
unfolding if_next
next-room s at k e = go (sight_at s at) refl
  where
    go : (x : Option (ℕ × ℕ)) → sight_at s at ≡ x → at < length s
    go (Some (c, w)) q = let h = seen s at c w q in omega (arith, h.room, h.moves)
    go None q = let z : false ≡ true = rw (ended s at q).none at e in let v : ◌≡◌ {A = ℕ} 0 1 = cc in absurd (omega arith)

pub flag : (b : Bool) → cond b true false ≡ b
flag true = refl
flag false = refl
