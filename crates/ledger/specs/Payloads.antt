-- PAYLOADS. What it is for a payload to lie in its span, on boundaries of the text, so that its check passes; that every payload does is in
-- proofs/Payloads.antt. And a place that stepping comes to.
use Rattle.std.specs.Prelude.{ℕ, zero, suc, ◌+◌, ◌≤◌, true, List, [], ◌∷◌, ◌≡◌, refl, drop, length, Ok}
use Rattle.std.proofs.Common.{◌∙◌}
use Rattle.utf8.proofs.Laws.{bounded}
use Rattle.utf8.specs.Laws.{Whole}
use Rattle.utf8.specs.Utf8.{boundary, reach, width_of}
use Rattle.record.specs.declared.Token.{Token}
use Rattle.scan.specs.Far.{Far, after, lands}
use Rattle.scan.specs.Until.{left}
use Rattle.run.specs.Payload.{payload_check}

-- a token whose payload lies in its span, on boundaries
pub record Held (s : List ℕ) (shift : ℕ) (t : Token) : Type 0 where
  pub from_start : t.start ≤ t.payload_start
  pub forward : t.payload_start ≤ t.payload_end
  pub to_end : t.payload_end ≤ t.end
  pub checked : payload_check s shift t ≡ Ok tt

-- and all of a list
abbrev pub AllHeld : List ℕ → ℕ → List Token → Type 0
AllHeld s shift [] = Unit {0}
AllHeld s shift (t ∷ ts) = Held s shift t × AllHeld s shift ts

-- ---- a place of a well_formed_lem text that stepping comes to is a boundary
reach-after : (m : ℕ) (cs : List ℕ) (at : ℕ) → reach (drop m cs) (after m cs at) ≡ reach cs at
unfolding reach after
reach-after zero cs at = refl
reach-after (suc m) [] at = refl
reach-after (suc m) (c ∷ cs) at = reach-after m cs (at + width_of c)

-- in the text, on a character's first byte or at the end
pub record On (s : List ℕ) (at : ℕ) : Type 0 where
  pub within : at ≤ length s
  pub whole : Whole s at

pub on_far : (s : List ℕ) (at m p : ℕ) → On s at → Far (left s at) at m p → On s p
on_far s at m p o f =
    let l = lands m s at p f in
    let e : reach (left s p) p ≡ reach (left s at) at = rw (← l.rest, l.there) (reach-after m (left s at) at) in
    record { within = l.room o.within; whole = e ∙ o.whole }

pub on-boundary : (s : List ℕ) (at : ℕ) → On s at → boundary s at ≡ true
on-boundary s at o = bounded s at o.within o.whole
