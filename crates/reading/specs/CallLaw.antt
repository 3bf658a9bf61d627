-- What an attribute attempt passes, and what is passed after an attribute: for the law of a call (proofs/CallLaw.antt).
use Prim.Native.Nat.{◌+◌, ◌≤◌, suc, zero, ℕ}
use Rattle.std.proofs.Common.{arith, ap, eqb-true, Ok, Err}
use Rattle.std.specs.Prelude.{Bool, cond, ◌≡◌, drop, length}
use Rattle.std.proofs.Math.Bool.{false, true}
use mathlib.Core.List.{List, [], ◌∷◌}
use Rattle.std.proofs.Math.Path.{refl}
use Rattle.std.proofs.Math.Dec.{eqb}
use Rattle.utf8.specs.Utf8.{width_of}
use Rattle.record.specs.declared.Reading.{Reading}
use Rattle.record.specs.declared.Reading.TheVariants.{Kept, Old}
use Rattle.scan.specs.Far.{Far, after, far_none, one_far, one_more, then}
use Rattle.scan.specs.IfNext.{if_next}
use Rattle.scan.specs.Passes.{Sound}
use Rattle.scan.specs.Walk.{walk}
use Rattle.scan.specs.Shapes.{Skip}
use Rattle.reading.specs.Attribute.{advances_of, attempt, attempt_body, attempt_bracket, attempt_more, attribute_last, attribute_turn, body_by, dropped, place_of}
use Rattle.reading.specs.Passes.{attribute_sound}
use Rattle.reading.specs.Shapes.{Attempt}

-- the characters that an attempt passes, closed or failed, lead to its place
pub record Tried (cs : List ℕ) (at : ℕ) (x : Attempt) : Type 0 where
  pub is : Far cs at (advances_of x) (place_of x)

tried_test : (cs : List ℕ) (at : ℕ) (t : Bool) (x y : Attempt) → Tried cs at x → Tried cs at y → Tried cs at (cond t x y)
tried_test cs at true x y p q = p
tried_test cs at false x y p q = q

tried_one : (c : ℕ) (cs : List ℕ) (at : ℕ) (x : Attempt) → Tried cs (at + width_of c) x → Tried (c ∷ cs) at (attempt_more 1 x)
tried_one c cs at (Ok (p, m)) h = record { is = one_more c cs at m p h.is }
tried_one c cs at (Err (p, m)) h = record { is = one_more c cs at m p h.is }

tried_first : (c : ℕ) (cs : List ℕ) (at : ℕ) → Tried (c ∷ cs) at (Err (at + width_of c, 1))
tried_first c cs at = record { is = one_far c cs at }

tried_close : (cs : List ℕ) (at p m : ℕ) → Far cs at m p → Tried cs at (body_by cs (Ok (p, m)))
unfolding if_next width_of
tried_close cs at p m f = go (drop m cs) refl
  where
    at_bracket : (c : ℕ) (l : List ℕ) → drop m cs ≡ c ∷ l → (t : Bool) → eqb c 93 ≡ t → Tried cs at (cond (eqb c 93) (Ok (p + 1, m + 1)) (Err (p, m)))
    at_bracket c l e true q =
        let v : p + width_of c ≡ p + 1 = ap (λ (j : ℕ). p + width_of j) (eqb-true c 93 q) in
        let g : Far (drop m cs) p 1 (p + 1) = rw e (rw v at (one_far c l p)) in
        rw q (record { is = then m cs at p 1 (p + 1) f g })
    at_bracket c l e false q = rw q (record { is = f })

    go : (l : List ℕ) → drop m cs ≡ l → Tried cs at (if_next 93 l (Ok (p + 1, m + 1)) (Err (p, m)))
    go [] e = record { is = f }
    go (c ∷ l) e = at_bracket c l e (eqb c 93) refl

pub body_tried : (cs : List ℕ) (at : ℕ) → Tried cs at (attempt_body cs at)
unfolding attempt_body
body_tried cs at = go (walk attribute_turn attribute_last 1 cs at) (attribute_sound cs at)
  where
    go : (x : Skip) → Sound cs at x → Tried cs at (body_by cs x)
    go (Ok (p, m)) h = tried_close cs at p m h.is
    go (Err (r, p, m)) h = record { is = h.is }

pub bracket_tried : (cs : List ℕ) (at : ℕ) → Tried cs at (attempt_bracket cs at)
unfolding attempt_bracket
bracket_tried [] at = record { is = far_none [] at }
bracket_tried (c ∷ cs) at =
    tried_test (c ∷ cs) at (eqb c 91) _ _ (tried_one c cs at _ (body_tried cs (at + width_of c))) (tried_first c cs at)

pub attempt_tried : (cs : List ℕ) (at : ℕ) → Tried cs at (attempt cs at)
unfolding attempt
attempt_tried [] at = record { is = far_none [] at }
attempt_tried (c ∷ cs) at =
    tried_test (c ∷ cs) at (eqb c 33) _ _ (tried_one c cs at _ (bracket_tried cs (at + width_of c))) (tried_first c cs at)

pub nothing : (b : Bool) → ◌≡◌ {A = ℕ} (cond b 0 0) 0
nothing true = refl
nothing false = refl

pub all_gone : (m : ℕ) (cs : List ℕ) → m ≤ length cs → drop m cs ≡ [] → m ≡ length cs
all_gone zero [] h e = refl
all_gone zero (c ∷ cs) h e = let z : ◌≡◌ {A = ℕ} 0 1 = cc in absurd (omega arith)
all_gone (suc m) [] h e = absurd (omega arith)
all_gone (suc m) (c ∷ cs) h e = ap suc (all_gone m cs (omega arith) e)

-- what is passed after an attribute leads on
pub tail_far : (rd : Reading) (cs : List ℕ) (p : ℕ) → Far cs p (dropped rd cs) (after (dropped rd cs) cs p)
unfolding dropped
tail_far Old [] p = record { within = omega arith; there = refl }
tail_far Old (c ∷ cs) p = record { within = omega arith; there = refl }
tail_far Kept cs p = record { within = omega arith; there = refl }
