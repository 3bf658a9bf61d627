-- What the first bytes of a character tell of it, where they need no closer look: that so many bytes are passed.
use Rattle.std.specs.Prelude.{ℕ, ◌+◌, ◌≤◌, ◌<◌, List, ◌≡◌, refl, length, drop, Some}
use Rattle.std.proofs.Common.{arith}
use Rattle.utf8.specs.Utf8.{chars, code2, code3, high, lead, low, reach}
use Rattle.utf8.specs.Laws.{Seen, reach_step}
use Rattle.utf8.specs.Picks.{pick_ge, pick_lt, picks}

-- w bytes are passed at a place: reading comes to where it comes from after them
abbrev pub Passes : List ℕ → ℕ → ℕ → Type 0
Passes s at w = (at + w ≤ length s) × (reach (chars (drop at s)) at ≡ reach (chars (drop (at + w) s)) (at + w))

pub passes-seen : (s : List ℕ) (at k w : ℕ) → Seen s at k w → Passes s at w
passes-seen s at k w h = (h.room, reach_step s at k w h)

-- a first byte that is none of E0, ED, F0, F4 is followed by any tail
pub low-plain : (a : ℕ) → (a ≡ 0xE0 → ⊥) → (a ≡ 0xF0 → ⊥) → 0x80 ≡ low a
unfolding low
low-plain a p q = search picks

pub high-plain : (a : ℕ) → (a ≡ 0xED → ⊥) → (a ≡ 0xF4 → ⊥) → 0xBF ≡ high a
unfolding high
high-plain a p q = search picks

pub lead-two : (l h a b c d : ℕ) → 0xC2 ≤ a → a < 0xE0 → l ≤ b → b ≤ h → Some (code2 a b, 2) ≡ lead l h a b c d
unfolding lead
lead-two l h a b c d p q r t =
    pick_ge a 0x80 _ _ _ (omega arith) (pick_ge a 0xC2 _ _ _ p (pick_ge b l _ _ _ r (pick_ge h b _ _ _ t (pick_lt a 0xE0 _ _ _ q refl))))

pub lead_three : (l h a b c d : ℕ) → 0xE1 ≤ a → a < 0xED → l ≤ b → b ≤ h → 0x80 ≤ c → c ≤ 0xBF → Some (code3 a b c, 3) ≡ lead l h a b c d
unfolding lead
lead_three l h a b c d p q r t u v =
    pick_ge a 0x80 _ _ _ (omega arith)
    (pick_ge a 0xC2 _ _ _ (omega arith)
    (pick_ge b l _ _ _ r
    (pick_ge h b _ _ _ t
    (pick_ge a 0xE0 _ _ _ (omega arith) (pick_ge c 0x80 _ _ _ u (pick_ge 0xBF c _ _ _ v (pick_lt a 0xF0 _ _ _ (omega arith) refl)))))))
