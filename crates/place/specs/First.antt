-- What the first byte of a character tells of it: all that the code looks at.
use Rattle.std.specs.Prelude.{ℕ, ◌+◌, ◌/◌, ◌≤◌, ◌<◌, ◌≡◌, Bool, cond, ◌&&◌, ◌||◌, List, ◌∷◌, ◌++◌, ltb, length, get_or, drop, Option, Some, None}
use Rattle.std.proofs.Math.Path.{refl, ap}
use Rattle.std.proofs.Common.{sym, subst, ◌∙◌, get_or-drop, eqb-true, ne_eqb}
use Rattle.std.proofs.Math.Bool.{true, false, not}
use native.Mathlib.Omega.{arith}
use Rattle.std.proofs.Math.Dec.{eqb}
use Rattle.std.proofs.Math.ListN.{get_or-eq_default}
use Rattle.utf8.specs.Chars.{'carriage_return, 'newline}
use Rattle.utf8.specs.Encode.{encode}
use Rattle.utf8.proofs.Forms.{Form, form}
use Rattle.utf8.proofs.Laws.{seen}
use Rattle.utf8.specs.Laws.{Whole, Seen, ended, reach-end, sight_ascii, whole-step}
use Rattle.utf8.specs.Picks.{picks, tests}
use Rattle.utf8.specs.Utf8.{chars, sight_at, width_of}
use Rattle.place.specs.Ends.{ends_by}
use Rattle.place.specs.Order.{wide}
use Rattle.place.specs.Place.{ends, starts_newline, units}

-- the bytes of a character, and its units, by its first byte
unfoldable pub first_width : ℕ → ℕ
first_width a = cond (ltb a 0x80) 1 (cond (ltb a 0xE0) 2 (cond (ltb a 0xF0) 3 4))

unfoldable pub first_units : ℕ → ℕ
first_units a = cond (ltb a 0xF0) 1 2

-- whether a line ends with the character at a place, by the bytes
unfoldable pub ends_at : List ℕ → ℕ → Bool
ends_at s i = eqb (get_or s i 0) 'newline || (eqb (get_or s i 0) 'carriage_return && not (eqb (get_or s (i + 1) 0) 'newline))

-- a number that is not 0 stands within the list
within : (s : List ℕ) (i : ℕ) → 0 < get_or s i 0 → i < length s
within s i h = go (ltb i (length s)) refl
  where
    go : (t : Bool) → ltb i (length s) ≡ t → i < length s
    go true e = omega tests
    go false e = let z : get_or s i 0 ≡ 0 = get_or-eq_default s 0 (omega tests) in absurd (omega arith)

-- a first byte a of the character k
pub record Tells (a k : ℕ) : Type 0 where
  pub width : first_width a ≡ width_of k
  pub units_of : first_units a ≡ units k
  pub same : (d : ℕ) → d < 0x80 → eqb a d ≡ eqb k d

far : (a k d : ℕ) → d < 0x80 → 0x80 ≤ a → 0x80 ≤ k → eqb a d ≡ eqb k d
far a k d h f g = ne_eqb a d (λ e. omega arith) ∙ sym (ne_eqb k d (λ e. omega arith))

-- the same number on both sides
by_widths : (a k w : ℕ) → w ≡ first_width a → w ≡ width_of k → first_width a ≡ width_of k
by_widths a k w e f = sym e ∙ f

by_units : (a k n : ℕ) → n ≡ first_units a → n ≡ units k → first_units a ≡ units k
by_units a k n e f = sym e ∙ f

tells_1 : (a k : ℕ) → a ≡ k → k < 0x80 → Tells a k
unfolding first_width first_units width_of units
tells_1 a k e h =
    let f : a < 0x80 = omega arith in
    let g : a < 0xF0 = omega arith in
    let u : k ≤ 0xFFFF = omega arith in
    record {
      width = by_widths a k 1 (search picks) (search picks);
      units_of = by_units a k 1 (search picks) (search picks);
      same = λ d g. ap (λ (x : ℕ). eqb x d) e;
    }

module _ (a k : ℕ) (f : 0x80 ≤ a) (g : 0x80 ≤ k) where
  tells_2 : a < 0xE0 → k < 0x800 → Tells a k
  unfolding first_width first_units width_of units
  tells_2 p q =
      let r : a < 0xF0 = omega arith in
      let u : k ≤ 0xFFFF = omega arith in
      record {
        width = by_widths a k 2 (search picks) (search picks);
        units_of = by_units a k 1 (search picks) (search picks);
        same = λ d h. far a k d h f g;
      }

  tells_3 : 0xE0 ≤ a → a < 0xF0 → 0x800 ≤ k → k < 0x10000 → Tells a k
  unfolding first_width first_units width_of units
  tells_3 o p q r =
      let u : k ≤ 0xFFFF = omega arith in
      record {
        width = by_widths a k 3 (search picks) (search picks);
        units_of = by_units a k 1 (search picks) (search picks);
        same = λ d h. far a k d h f g;
      }

  tells_4 : 0xF0 ≤ a → 0x10000 ≤ k → Tells a k
  unfolding first_width first_units width_of units
  tells_4 o q =
      let p : 0xE0 ≤ a = omega arith in
      let r : 0x800 ≤ k = omega arith in
      let u : 0xFFFF < k = omega arith in
      record {
        width = by_widths a k 4 (search picks) (search picks);
        units_of = by_units a k 2 (search picks) (search picks);
        same = λ d h. far a k d h f g;
      }

-- of the bytes that are written of a character
written-tells : (k : ℕ) (r : List ℕ) → Tells (get_or (encode k ++ r) 0 0) k
unfolding encode
written-tells k r = go (ltb k 0x80) (ltb k 0x800) (ltb k 0x10000) refl refl refl
  where
    go : (x y z : Bool) → ltb k 0x80 ≡ x → ltb k 0x800 ≡ y → ltb k 0x10000 ≡ z → Tells (get_or (encode k ++ r) 0 0) k
    go true y z e f g = rw e (tells_1 k k refl (omega tests))
    go false true z e f g = rw (e, f) (tells_2 (0xC0 + k / 64) k (omega tests) (omega tests) (omega tests) (omega tests))
    go false false true e f g = rw (e, f, g) (tells_3 (0xE0 + k / 4096) k (omega tests) (omega tests) (omega tests) (omega tests) (omega tests) (omega tests))
    go false false false e f g = rw (e, f, g) (tells_4 (0xF0 + k / 262144) k (omega tests) (omega tests) (omega tests) (omega tests))

pub first-tells : (s : List ℕ) (i k w : ℕ) → sight_at s i ≡ Some (k, w) → Tells (get_or s i 0) k
unfolding sight_at
first-tells s i k w e =
    let f : Form (drop i s) k w = form (drop i s) k w e in
    let b : get_or (encode k ++ drop w (drop i s)) 0 0 ≡ get_or s i 0 = ap (λ (l : List ℕ). get_or l 0 0) f.bytes ∙ get_or-drop i s 0 0 ∙ ap (λ (n : ℕ). get_or s n 0) (omega arith) in
    subst (λ (a : ℕ). Tells a k) b (written-tells k (drop w (drop i s)))

-- what stands after a character: whether it is an LF
pub starts-told : (s : List ℕ) (j : ℕ) → starts_newline (chars (drop j s)) ≡ eqb (get_or s j 0) 'newline
unfolding starts_newline
starts-told s j = go (sight_at s j) (eqb (get_or s j 0) 'newline) refl refl
  where
    none : (t : Bool) → sight_at s j ≡ None → eqb (get_or s j 0) 'newline ≡ t → false ≡ t
    none false e q = refl
    none true e q =
        let l : j < length s = within s j (omega tests) in
        let z : ◌≡◌ {A = ℕ} 0 1 = cc (e, sight_ascii s j l (omega tests)) in
        absurd (omega arith)

    go : (x : Option (ℕ × ℕ)) (t : Bool) → sight_at s j ≡ x → eqb (get_or s j 0) 'newline ≡ t → starts_newline (chars (drop j s)) ≡ t
    go None t e q = rw (ended s j e).none (none t e q)
    go (Some (k, w)) t e q = rw (seen s j k w e).next (sym ((first-tells s j k w e).same 'newline (omega arith)) ∙ q)

module _ (s : List ℕ) (i k w : ℕ) (e : sight_at s i ≡ Some (k, w)) where
  ends-told : ends_at s i ≡ ends k (chars (drop (i + w) s))
  unfolding ends_at width_of
  ends-told =
      let t : Tells (get_or s i 0) k = first-tells s i k w e in
      rw (ends_by k (chars (drop (i + w) s)), t.same 'newline (omega arith), t.same 'carriage_return (omega arith))
      (ap (λ (b : Bool). eqb k 'newline || b) (go (eqb k 'carriage_return) refl))
    where
      go : (b : Bool) → eqb k 'carriage_return ≡ b → (b && not (eqb (get_or s (i + 1) 0) 'newline)) ≡ (b && not (starts_newline (chars (drop (i + w) s))))
      go false q = refl
      go true q =
          let f : w ≡ 1 = (seen s i k w e).width ∙ ap width_of (eqb-true k 'carriage_return q) in
          rw f (ap not (sym (starts-told s (i + 1))))

-- ONE CHARACTER MORE in a well_formed_lem text: which it is, and what its first byte tells
pub record Step (s : List ℕ) (i : ℕ) : Type 0 where
  pub code : ℕ
  pub next : chars (drop i s) ≡ code ∷ chars (drop (i + first_width (get_or s i 0)) s)
  pub width : first_width (get_or s i 0) ≡ width_of code
  pub units_of : first_units (get_or s i 0) ≡ units code
  pub fit : first_units (get_or s i 0) ≤ first_width (get_or s i 0)
  pub same : (d : ℕ) → d < 0x80 → eqb (get_or s i 0) d ≡ eqb code d
  pub ending : ends_at s i ≡ ends code (chars (drop (i + first_width (get_or s i 0)) s))
  pub room : i + first_width (get_or s i 0) ≤ length s
  pub moves : 0 < first_width (get_or s i 0)
  pub whole : Whole s (i + first_width (get_or s i 0))

pub step : (s : List ℕ) (i : ℕ) → i < length s → Whole s i → Step s i
step s i l o = go (sight_at s i) refl
  where
    go : (x : Option (ℕ × ℕ)) → sight_at s i ≡ x → Step s i
    go None e = absurd (omega (arith, reach-end s i (ended s i e), o))
    go (Some (k, w)) e =
        let h : Seen s i k w = seen s i k w e in
        let t : Tells (get_or s i 0) k = first-tells s i k w e in
        let f : w ≡ first_width (get_or s i 0) = h.width ∙ sym t.width in
        record {
          code = k;
          next = rw (← f) h.next;
          width = t.width;
          units_of = t.units_of;
          fit = omega (arith, t.width, t.units_of, wide k);
          same = t.same;
          ending = rw (← f) (ends-told s i k w e);
          room = rw (← f) h.room;
          moves = rw (← f) h.moves;
          whole = rw (← f) (whole-step s i k w h o);
        }
