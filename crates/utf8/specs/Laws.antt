-- Laws of UTF-8 reading: what a step from character to character tells. The crates above stand on `Seen`, `Ended` and `Whole`. The laws that
-- rest on the forms of a character are in proofs/Laws.antt.
use Rattle.std.specs.Prelude.{ℕ, zero, suc, ◌+◌, ◌-◌, ◌≤◌, ◌<◌, ◌≡◌, refl, Bool, true, false, ◌||◌, ◌&&◌, List, [], ◌∷◌, ltb, eqb, length, get_or, drop, Some, None, Ok, Err}
use Rattle.std.proofs.Common.{sym, ap, ◌∙◌, arith, drop_of_length-le, drop-cons, get_or-drop, lt-ltb, le-ltb, eq-eqb, ne_eqb, eqb-true}
use Rattle.utf8.specs.Utf8.{low, high, lead, sight, sight_at, chars, chars_from, width_of, reach, verdict, boundary}
use Rattle.utf8.specs.Forms.{lead_ascii, Tail}
use Rattle.utf8.specs.Picks.{tests}

-- what stands at a place, by the bytes of the whole list
pub sight_past : (s : List ℕ) (at : ℕ) → length s ≤ at → sight_at s at ≡ None
unfolding sight sight_at
sight_past s at h = rw (drop_of_length-le s h)

byte_on : (s : List ℕ) (at i j : ℕ) → at + j ≡ suc at + i → get_or (drop (suc at) s) i 0 ≡ get_or s (at + j) 0
byte_on s at i j e = get_or-drop (suc at) s i 0 ∙ ap (λ (k : ℕ). get_or s k 0) (sym e)

pub sight_in : (s : List ℕ) (at : ℕ) → at < length s
    → sight_at s at ≡ lead (low (get_or s at 0)) (high (get_or s at 0)) (get_or s at 0) (get_or s (at + 1) 0) (get_or s (at + 2) 0) (get_or s (at + 3) 0)
unfolding sight sight_at
sight_in s at h =
    rw (drop-cons s at 0 h)
    (cc (byte_on s at 0 1 (omega arith), byte_on s at 1 2 (omega arith), byte_on s at 2 3 (omega arith)))

pub sight_ascii : (s : List ℕ) (at : ℕ) → at < length s → get_or s at 0 < 0x80 → Some (get_or s at 0, 1) ≡ sight_at s at
sight_ascii s at h q = lead_ascii _ _ _ _ _ _ q ∙ sym (sight_in s at h)

-- two tests that both hold
pub both : (x y : Bool) → (x && y) ≡ true → (x ≡ true) × (y ≡ true)
both true y h = (refl, h)
both false y h = (h, cc)

-- after k bytes: the rest
pub skip : (k : ℕ) (s : List ℕ) → chars_from k s ≡ chars (drop k s)
unfolding chars_from chars
skip zero s = refl
skip (suc k) [] = refl
skip (suc k) (a ∷ s) = skip k s

pub uncons : (s : List ℕ) (k w : ℕ) → sight s ≡ Some (k, w) → chars s ≡ k ∷ chars_from (w - 1) (drop 1 s)
unfolding chars_from chars sight
uncons [] k w e = let z : ◌≡◌ {A = ℕ} 0 1 = cc in absurd (omega arith)
uncons (a ∷ s) k w e = rw (e, chars_from)

blank : (s : List ℕ) → sight s ≡ None → chars s ≡ []
unfolding chars_from chars
blank [] e = refl
blank (a ∷ s) e = rw (e, chars_from)

-- THE LAW OF A STEP: what a sight of a character says
pub record Seen (s : List ℕ) (at k w : ℕ) : Type 0 where
  pub width : w ≡ width_of k
  pub room : at + w ≤ length s
  pub moves : 0 < w
  pub next : chars (drop at s) ≡ k ∷ chars (drop (at + w) s)

pub record Ended (s : List ℕ) (at : ℕ) : Type 0 where
  pub none : chars (drop at s) ≡ []

pub ended : (s : List ℕ) (at : ℕ) → sight_at s at ≡ None → Ended s at
unfolding sight_at
ended s at e = record { none = blank (drop at s) e }

-- the place that reading comes to, over a step and at the end
pub reach_step : (s : List ℕ) (at k w : ℕ) → Seen s at k w → reach (chars (drop at s)) at ≡ reach (chars (drop (at + w) s)) (at + w)
unfolding reach
reach_step s at k w h = rw (h.next, h.width)

pub reach-end : (s : List ℕ) (at : ℕ) → Ended s at → reach (chars (drop at s)) at ≡ at
unfolding reach
reach-end s at e = rw e.none

-- a character's first byte is no tail
pub heads : (l h a b c d k w : ℕ) → lead l h a b c d ≡ Some (k, w) → (ltb a 0x80 || ltb 0xBF a) ≡ true
unfolding lead
heads l h a b c d k w e = go (ltb a 0x80) (ltb a 0xC2) refl refl
  where
    go : (t u : Bool) → ltb a 0x80 ≡ t → ltb a 0xC2 ≡ u → (ltb a 0x80 || ltb 0xBF a) ≡ true
    go true u p q = rw p
    go false true p q = let e' : None ≡ Some (k, w) = simp (p, q) at e in let z : ◌≡◌ {A = ℕ} 0 1 = cc in absurd (omega arith)
    go false false p q = rw (p, lt-ltb 0xBF a (omega tests))

-- a place from which the rest is read to the very end, and that such a place is a boundary
abbrev pub Whole : List ℕ → ℕ → Type 0
Whole s at = reach (chars (drop at s)) at ≡ length s

pub whole-step : (s : List ℕ) (at k w : ℕ) → Seen s at k w → Whole s at → Whole s (at + w)
whole-step s at k w h o = sym (reach_step s at k w h) ∙ o

pub valid_whole : (s : List ℕ) → verdict s ≡ (Ok tt) → Whole s 0
valid_whole s e = go (eqb (reach (chars s) 0) (length s)) refl
  where
    go : (t : Bool) → eqb (reach (chars s) 0) (length s) ≡ t → Whole s 0
    go true p = eqb-true _ _ p
    go false p = let e' : Err (reach (chars s) 0) ≡ (Ok tt) = rw p at e in let z : ◌≡◌ {A = ℕ} 0 1 = cc in absurd (omega arith)

pub ascii_end : (s : List ℕ) (i : ℕ) (m : Bool) → i ≤ length s → length s ≤ i → (m ≡ true → reach (chars (drop i s)) i ≡ reach (chars s) 0)
    → m ≡ true → verdict s ≡ Ok tt
ascii_end s i m a b h t =
    let e : reach (chars s) 0 ≡ i = sym (h t) ∙ reach-end s i (ended s i (sight_past s i b)) in
    let f : i ≡ length s = omega arith in
    rw (eq-eqb (reach (chars s) 0) (length s) (e ∙ f))

-- no place inside a character is a boundary
pub tail-no-boundary : (s : List ℕ) (i : ℕ) → i < length s → Tail (get_or s i 0) → boundary s i ≡ false
tail-no-boundary s i l t =
    rw (ne_eqb i (length s) (omega arith), lt-ltb i (length s) l, le-ltb (get_or s i 0) 0x80 t.least, le-ltb 0xBF (get_or s i 0) t.most)

-- THE LAW OF BOUNDARIES: in a well_formed_lem text stepping comes to every boundary
pub boundary-within : (s : List ℕ) (p : ℕ) → boundary s p ≡ true → p ≤ length s
boundary-within s p e = go (eqb p (length s)) (ltb p (length s)) refl refl
  where
    go : (x y : Bool) → eqb p (length s) ≡ x → ltb p (length s) ≡ y → p ≤ length s
    go true y q r = omega tests
    go false true q r = omega tests
    go false false q r = let e' : false ≡ true = rw (q, r) at e in let z : ◌≡◌ {A = ℕ} 0 1 = cc in absurd (omega arith)
