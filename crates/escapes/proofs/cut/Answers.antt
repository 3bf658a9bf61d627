use Rattle.std.proofs.Common.{◌≡◌, ◌+◌, ◌≤◌, ◌<◌, ℕ, List, [], length, le-leb, leb, refl, inl, inr}
use Rattle.std.proofs.lemmas.Bool.{lt-leb}
use Rattle.std.specs.List.{slice_range}
use Rattle.std.specs.Option.{MatchOption, unwrap_or}
use Rattle.std.specs.Prelude.{Bool, true, false, ◌&&◌, ◌⊎◌, Option, Some, None}
use denote.Ref.{Bor}
use Rattle.escapes.specs.Answers.{cut}
use Rattle.escapes.proofs.cut.Goals as goal

no : (t u : Bool) → u ≡ false → t && u ≡ false
no true u e = e
no false u e = refl

-- the bytes of a range, or none
ranged : (s : List ℕ) (a b : ℕ) (d : Bor (List ℕ)) (o : Option (Bor (List ℕ))) → d.now ≡ []
    → MatchOption o ((b < a) ⊎ (length s < b)) (λ x. (a ≤ b) × (b ≤ length s) × (x.now ≡ slice_range s a b) × (length x.now + a ≡ b))
    → (unwrap_or o d).now ≡ cut s a b
unfolding cut
ranged s a b d None e h = elim h [ inl l ↦ rw (lt-leb a b l) e | inr l ↦ rw (no (leb a b) (leb b (length s)) (lt-leb b (length s) l)) e ]
ranged s a b d (Some x) e h = rw (le-leb a b h.0, le-leb b (length s) h.1) h.2

pub returns : goal.returns
returns c = rw c.unwrap_or.ensures (ranged _ _ _ _ _ refl c.get.ensures.lookup.0)
