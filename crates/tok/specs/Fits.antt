-- What the sums of the code rest on: the characters passed are no more than those that there are.
use Rattle.std.specs.Prelude.{◌+◌, ◌<◌, ◌≤◌, ℕ, Bool, cond, false, true, List, [], ◌∷◌, ◌≡◌, refl, eqb, drop, length, Option, Some, None}
use Rattle.std.proofs.Common.{arith, ◌∙◌, ap, eqb-true}
use Rattle.utf8.proofs.Laws.{seen}
use Rattle.utf8.specs.Laws.{Seen, ended}
use Rattle.utf8.specs.Utf8.{sight_at, width_of}
use Rattle.record.specs.declared.Reading.{Reading}
use Rattle.record.specs.declared.Reading.TheVariants.{Kept, Old}
use Rattle.scan.specs.Far.{fits}
use Rattle.scan.specs.IfNext.{if_next}
use Rattle.scan.specs.Until.{left}
use Rattle.reading.specs.Attribute.{advances_of, attempt, attempt_body, attempt_bracket, dropped}
use Rattle.reading.specs.CallLaw.{Tried, attempt_tried, body_tried, bracket_tried}
use Rattle.reading.specs.Calls.{Fair}
use Rattle.reading.specs.Shapes.{Attempt}
use Rattle.reading.specs.declared.Call.{Call}

-- the advances of a fair call are no more than the bytes of the text
pub fair_fits : {o : ℕ} (s : List ℕ) (at : ℕ) {x y : Call} → x ≡ y → Fair o (left s at) at y → x.advances ≤ length s
fair_fits s at {x} {y} e h = omega (arith, ap (λ (z : Call). z.advances) e, h.far.within, fits s at)

tried_most : (s : List ℕ) (at : ℕ) (x : Attempt) → Tried (left s at) at x → advances_of x ≤ length s
tried_most s at x h = omega (arith, h.is.within, fits s at)

module _ (s : List ℕ) (at : ℕ) where
  pub body_most : advances_of (attempt_body (left s at) at) ≤ length s
  body_most = tried_most s at _ (body_tried (left s at) at)

  pub bracket_most : advances_of (attempt_bracket (left s at) at) ≤ length s
  bracket_most = tried_most s at _ (bracket_tried (left s at) at)

  pub attempt-most : advances_of (attempt (left s at) at) ≤ length s
  attempt-most = tried_most s at _ (attempt_tried (left s at) at)

pub dropped-most : (rd : Reading) (cs : List ℕ) → dropped rd cs ≤ 1
unfolding dropped
dropped-most Old [] = omega arith
dropped-most Old (c ∷ cs) = omega arith
dropped-most Kept cs = omega arith

-- after a next character that is one byte wide
pub next-drop : (s : List ℕ) (at k : ℕ) → width_of k ≡ 1 → if_next k (left s at) true false ≡ true → drop 1 (left s at) ≡ left s (at + 1)
unfolding if_next
next-drop s at k v e = go (sight_at s at) refl
  where
    by : (c w : ℕ) → Seen s at c w → (t : Bool) → eqb c k ≡ t → cond (eqb c k) true false ≡ true → drop 1 (left s at) ≡ left s (at + 1)
    by c w h true q f =
        let u : w ≡ 1 = h.width ∙ ap width_of (eqb-true c k q) ∙ v in
        rw (h.next, u)
    by c w h false q f = let z : false ≡ true = rw q at f in let y : ◌≡◌ {A = ℕ} 0 1 = cc in absurd (omega arith)

    go : (x : Option (ℕ × ℕ)) → sight_at s at ≡ x → drop 1 (left s at) ≡ left s (at + 1)
    go (Some (c, w)) q = let h = seen s at c w q in by c w h (eqb c k) refl (rw h.next at e)
    go None q = let z : false ≡ true = rw (ended s at q).none at e in let y : ◌≡◌ {A = ℕ} 0 1 = cc in absurd (omega arith)
