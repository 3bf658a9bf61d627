-- Why an expansion is well formed: its text is, a character that is copied stays whole, and an escape stands for ASCII.
use Rattle.std.specs.Prelude.{Ok, Err, Option, Some, None, ◌≡◌, Bool, true, false, cond, ◌&&◌, List, [], ◌∷◌, ◌++◌, ℕ, zero, suc, ◌+◌, ◌-◌, ◌*◌, ◌≤◌, ◌<◌, ltb, leb, eqb, length, get_or, take, drop}
use Rattle.std.proofs.Math.Path.{refl}
use Rattle.std.proofs.Common.{sym, ap, ◌∙◌, add-zero, arith, length-append, length-take-le, drop_at, get_or-take, eqb-true, ne_eqb, lt-ltb, ltb-true, leb-true}
use Rattle.std.proofs.Math.ListN.{get_or-append}
use Rattle.utf8.specs.Utf8.{low, high, code2, code3, code4, lead, sight, sight_at, chars, chars_from, width_of, reach}
use Rattle.utf8.specs.Picks.{by_test, tests}
use Rattle.utf8.specs.Chars.{'backslash, 'x, '0, 'a, 'f}
use Rattle.utf8.proofs.Laws.{seen}
use Rattle.utf8.specs.Laws.{Seen, ended, sight_in, sight_ascii, reach_step, reach-end, Whole, whole-step}
use Rattle.record.specs.declared.Refusal.{Refusal}
use Rattle.escapes.specs.Escapes.{Read, '9, 'A, 'F, digit, octal, hexadecimal, ascii_escape, escape, stands, Outcome, gives, refused, prepend}
use Rattle.escapes.specs.Characters.{spell_from}
use Rattle.escapes.specs.Laws.{both, same_some, Turn, turn, rest, rest_byte, rest-bad, rest_end, cons-at}

-- a character is seen by its own bytes alone
record Near (o : Option (ℕ × ℕ)) (k w : ℕ) (x : Option (ℕ × ℕ)) : Type 0 where
  is : x ≡ Some (k, w) → o ≡ Some (k, w)

near_test : (o : Option (ℕ × ℕ)) (k w : ℕ) (t : Bool) (x y : Option (ℕ × ℕ)) → (t ≡ true → Near o k w x) → (t ≡ false → Near o k w y) → Near o k w (cond t x y)
near_test o k w t x y f g = by_test (Near o k w) t x y f g

near_end : (o : Option (ℕ × ℕ)) (k w : ℕ) → Near o k w None
near_end o k w = record { is = λ e. cc }

module _ (l h a b c d b' c' d' k w : ℕ) (p : 2 ≤ w → b ≡ b') (q : 3 ≤ w → c ≡ c') (r : 4 ≤ w → d ≡ d') where
  near_1 : ltb a 0x80 ≡ true → Near (lead l h a b' c' d') k w (Some (a, 1))
  unfolding lead
  near_1 t = record { is = λ e. simp t e }

  module _ (t1 : ltb a 0x80 ≡ false) (t2 : ltb a 0xC2 ≡ false) (t3 : ltb b l ≡ false) (t4 : ltb h b ≡ false) where
    near_2 : ltb a 0xE0 ≡ true → Near (lead l h a b' c' d') k w (Some (code2 a b, 2))
    unfolding lead
    near_2 t5 =
        record {
          is = λ e.
              let m : 2 ≡ w = (same_some _ _ _ _ e).1 in
              rw (← (p (omega arith))) (simp (t1, t2, t3, t4, t5) e);
        }

    module _ (t5 : ltb a 0xE0 ≡ false) (t6 : ltb c 0x80 ≡ false) (t7 : ltb 0xBF c ≡ false) where
      near_3 : ltb a 0xF0 ≡ true → Near (lead l h a b' c' d') k w (Some (code3 a b c, 3))
      unfolding lead
      near_3 t8 =
          record {
            is = λ e.
                let m : 3 ≡ w = (same_some _ _ _ _ e).1 in
                rw (← (p (omega arith)), ← (q (omega arith))) (simp (t1, t2, t3, t4, t5, t6, t7, t8) e);
          }

      near_4 : ltb a 0xF0 ≡ false → ltb d 0x80 ≡ false → ltb 0xBF d ≡ false → ltb a 0xF5 ≡ true → Near (lead l h a b' c' d') k w (Some (code4 a b c d, 4))
      unfolding lead
      near_4 t8 t9 t10 t11 =
          record {
            is = λ e.
                let m : 4 ≡ w = (same_some _ _ _ _ e).1 in
                rw (← (p (omega arith)), ← (q (omega arith)), ← (r (omega arith)))
                (simp (t1, t2, t3, t4, t5, t6, t7, t8, t9, t10, t11) e);
          }

  near : Near (lead l h a b' c' d') k w (lead l h a b c d)
  unfolding lead
  near = search (near_test, near_end, near_1, near_2, near_3, near_4) depth 26

inner : (v : ℕ) (s t : List ℕ) (j : ℕ) → v ≤ length s → j < v → get_or s j 0 ≡ get_or (take v s ++ t) j 0
inner v s t j m h =
    let n : length (take v s) ≡ v = length-take-le v s m in
    sym (get_or-append (take v s) t 0 j (omega arith) ∙ get_or-take v s j 0 h)

-- so it stays the same before any other bytes
pub front : (x t : List ℕ) (k w : ℕ) → sight x ≡ Some (k, w) → sight (take w x ++ t) ≡ Some (k, w)
unfolding sight sight_at
front [] t k w e = cc
front (a ∷ s) t k w e = go w e (seen (a ∷ s) 0 k w e)
  where
    go : (w : ℕ) → sight (a ∷ s) ≡ Some (k, w) → Seen (a ∷ s) 0 k w → sight (take w (a ∷ s) ++ t) ≡ Some (k, w)
    go zero e h = absurd (omega (arith, h.moves))
    go (suc v) e h =
        let m : v ≤ length s = omega (arith, h.room) in
        let n =
        near (low a) (high a) a (get_or s 0 0) (get_or s 1 0) (get_or s 2 0) (get_or (take v s ++ t) 0 0) (get_or (take v s ++ t) 1 0)
        (get_or (take v s ++ t) 2 0) k (suc v) (λ g. inner v s t 0 m (omega arith)) (λ g. inner v s t 1 m (omega arith))
        (λ g. inner v s t 2 m (omega arith)) in
        n.is e

reach_shift : (cs : List ℕ) (n at : ℕ) → reach cs (n + at) ≡ n + reach cs at
unfolding reach
reach_shift [] n at = refl
reach_shift (c ∷ cs) n at =
    let e : n + at + width_of c ≡ n + (at + width_of c) = omega arith in
    ap (reach cs) e ∙ reach_shift cs n (at + width_of c)

-- a character before a well_formed_lem list
whole_char : (x l : List ℕ) (k w : ℕ) → sight x ≡ Some (k, w) → Whole l 0 → Whole (take w x ++ l) 0
unfolding sight_at
whole_char x l k w e o =
    let h : Seen x 0 k w = seen x 0 k w e in
    let n : length (take w x) ≡ w = length-take-le w x (omega (arith, h.room)) in
    let g : Seen (take w x ++ l) 0 k w = seen (take w x ++ l) 0 k w (front x l k w e) in
    let z : 0 + w ≡ w = omega arith in
    let m : w + length l ≡ length (take w x ++ l) = simp (length-append, n) in
    reach_step (take w x ++ l) 0 k w g
    ∙ ap (λ (i : ℕ). reach (chars (drop i (take w x ++ l))) i) z
    ∙ ap (λ (y : List ℕ). reach (chars y) w) (drop_at (take w x) l w n)
    ∙ ap (reach (chars l)) (sym (add-zero w))
    ∙ reach_shift (chars l) w 0
    ∙ ap (λ (i : ℕ). w + i) o
    ∙ m

whole_ascii : (v : ℕ) (l : List ℕ) → v < 128 → Whole l 0 → Whole (v ∷ l) 0
unfolding sight_at
whole_ascii v l h o = whole_char (v ∷ []) l v 1 (sym (sight_ascii (v ∷ []) 0 (omega arith) h)) o

-- the bytes of a character after its first are 128 or more
record Tails (b c d : ℕ) (x : Option (ℕ × ℕ)) : Type 0 where
  is : (k w : ℕ) → x ≡ Some (k, w) → (w ≤ 4) × (2 ≤ w → 128 ≤ b) × (3 ≤ w → 128 ≤ c) × (4 ≤ w → 128 ≤ d)

low_least : (a : ℕ) → 0x80 ≤ low a
unfolding low
low_least a =
    by_test (λ (l : ℕ). 0x80 ≤ l) (eqb a 0xE0) 0xA0 (cond (eqb a 0xF0) 0x90 0x80) (λ t. omega arith)
    (λ t. by_test (λ (l : ℕ). 0x80 ≤ l) (eqb a 0xF0) 0x90 0x80 (λ u. omega arith) (λ u. omega arith))

module _ (b c d : ℕ) where
  tails_test : (t : Bool) (x y : Option (ℕ × ℕ)) → (t ≡ true → Tails b c d x) → (t ≡ false → Tails b c d y) → Tails b c d (cond t x y)
  tails_test t x y f g = by_test (Tails b c d) t x y f g

  tails_end : Tails b c d None
  tails_end = record { is = λ k w e. let z : ◌≡◌ {A = ℕ} 0 1 = cc in absurd (omega arith) }

  tails_1 : (a : ℕ) → Tails b c d (Some (a, 1))
  tails_1 a = record { is = λ k w e. let m : 1 ≡ w = (same_some _ _ _ _ e).1 in (omega arith, λ g. omega arith, λ g. omega arith, λ g. omega arith) }

  module _ (a : ℕ) (t3 : ltb b (low a) ≡ false) where
    tails_2 : (m : ℕ) → Tails b c d (Some (m, 2))
    tails_2 n =
        record { is = λ k w e. let m : 2 ≡ w = (same_some _ _ _ _ e).1 in (omega arith, λ g. omega (tests, low_least a), λ g. omega arith, λ g. omega arith) }

    module _ (t6 : ltb c 0x80 ≡ false) where
      tails_3 : (m : ℕ) → Tails b c d (Some (m, 3))
      tails_3 n =
          record { is = λ k w e. let m : 3 ≡ w = (same_some _ _ _ _ e).1 in (omega arith, λ g. omega (tests, low_least a), λ g. omega tests, λ g. omega arith) }

      tails_4 : (m : ℕ) → ltb d 0x80 ≡ false → Tails b c d (Some (m, 4))
      tails_4 n t9 =
          record { is = λ k w e. let m : 4 ≡ w = (same_some _ _ _ _ e).1 in (omega arith, λ g. omega (tests, low_least a), λ g. omega tests, λ g. omega tests) }

  tails : (a : ℕ) → Tails b c d (lead (low a) (high a) a b c d)
  unfolding lead
  tails a = search (tails_test, tails_end, tails_1, tails_2 a, tails_3 a, tails_4 a) depth 26

-- a byte that is no backslash is copied, and so are m of them
abbrev pub Plain : List ℕ → ℕ → ℕ → Type 0
Plain s i m = (j : ℕ) → j < m → eqb (get_or s (i + j) 0) 'backslash ≡ false

pub plain-next : (s : List ℕ) (i m : ℕ) → Plain s i (suc m) → Plain s (i + 1) m
plain-next s i m p j h = let g : i + 1 + j ≡ i + suc j = omega arith in rw g (p (suc j) (omega arith))

high_byte : (b : ℕ) → 128 ≤ b → eqb b 'backslash ≡ false
high_byte b h = ne_eqb b 'backslash (λ (z : b ≡ 'backslash). omega arith)

pub plain_char : (s : List ℕ) (i k w : ℕ) → i < length s → sight_at s i ≡ Some (k, w) → eqb (get_or s i 0) 'backslash ≡ false → Plain s i w
plain_char s i k w l e f j m =
    let t = (tails (get_or s (i + 1) 0) (get_or s (i + 2) 0) (get_or s (i + 3) 0) (get_or s i 0)).is k w (sym (sight_in s i l) ∙ e) in
    go j m t.0 t.1 t.2 t.3
  where
    go : (j : ℕ) → j < w → w ≤ 4 → (2 ≤ w → 128 ≤ get_or s (i + 1) 0) → (3 ≤ w → 128 ≤ get_or s (i + 2) 0) → (4 ≤ w → 128 ≤ get_or s (i + 3) 0)
        → eqb (get_or s (i + j) 0) 'backslash ≡ false
    go zero m u t1 t2 t3 = rw (add-zero i) f
    go (suc zero) m u t1 t2 t3 = high_byte _ (t1 (omega arith))
    go (suc (suc zero)) m u t1 t2 t3 = high_byte _ (t2 (omega arith))
    go (suc (suc (suc zero))) m u t1 t2 t3 = high_byte _ (t3 (omega arith))
    go (suc (suc (suc (suc j)))) m u t1 t2 t3 = absurd (omega arith)

copied_1 : (s : List ℕ) (idx0 i : ℕ) → i < length s → eqb (get_or s i 0) 'backslash ≡ false → Turn s idx0 i (get_or s i 0) 1
unfolding stands
copied_1 s idx0 i l e = turn s idx0 i (get_or s i 0) 1 l (rw e)

prepend-nil : (o : Outcome) → o ≡ prepend [] o
prepend-nil (gives l) = refl
prepend-nil (refused r) = refl

prepend-cons : (b : ℕ) (p : List ℕ) (o : Outcome) → prepend (b ∷ []) (prepend p o) ≡ prepend (b ∷ p) o
prepend-cons b p (gives l) = refl
prepend-cons b p (refused r) = refl

pub copied : (m : ℕ) (s : List ℕ) (idx0 i : ℕ) → i + m ≤ length s → Plain s i m → rest s idx0 i ≡ prepend (take m (drop i s)) (rest s idx0 (i + m))
copied zero s idx0 i l p = rw (add-zero i) (prepend-nil (rest s idx0 i))
copied (suc m) s idx0 i l p =
    let b = get_or s i 0 in
    let r : i < length s = omega arith in
    let f : eqb b 'backslash ≡ false = rw (add-zero i) at (p 0 (omega arith)) in
    let e : i + 1 + m ≡ i + suc m = omega arith in
    let q : Plain s (i + 1) m =
    λ j h. let g : i + 1 + j ≡ i + suc j = omega arith in rw g (p (suc j) (omega arith)) in
    rest_byte (copied_1 s idx0 i r f)
    ∙ ap (prepend (b ∷ [])) (copied m s idx0 (i + 1) (omega arith) (plain-next s i m p))
    ∙ prepend-cons b (take m (drop (i + 1) s)) (rest s idx0 (i + 1 + m))
    ∙ ap (λ (k : ℕ). prepend (b ∷ take m (drop (i + 1) s)) (rest s idx0 k)) e
    ∙ ap (λ (x : List ℕ). prepend (take (suc m) x) (rest s idx0 (i + suc m))) (sym (cons-at s i r))

-- m characters from j on are one byte each, and are passed
abbrev pub Passes : List ℕ → ℕ → ℕ → Type 0
Passes s j m = (at : ℕ) → spell_from m (chars (drop j s)) at ≡ spell_from 0 (chars (drop (j + m) s)) (at + m)

abbrev Passes_1 : List ℕ → ℕ → Type 0
Passes_1 s j = (k at : ℕ) → spell_from (suc k) (chars (drop j s)) at ≡ spell_from k (chars (drop (j + 1) s)) (at + 1)

-- what an escape is read as, its backslash just before j: ASCII, and the text goes on from a boundary
abbrev pub LandsIn : List ℕ → ℕ → Read → Type 0
LandsIn s j (Ok (v, w)) = (v < 128) × (j + w ≤ length s + 1) × Whole s (j + w - 1) × Passes s j (w - 1)
LandsIn s j (Err r) = Unit {0}

pub record Lands (s : List ℕ) (j : ℕ) (x : Read) : Type 0 where
  pub is : LandsIn s j x

lands_test : (s : List ℕ) (j : ℕ) (t : Bool) (x y : Read) → (t ≡ true → Lands s j x) → (t ≡ false → Lands s j y) → Lands s j (cond t x y)
lands_test s j t x y f g = by_test (Lands s j) t x y f g

lands_bad : (s : List ℕ) (j : ℕ) (r : Refusal) → Lands s j (Err r)
lands_bad s j r = record { is = tt }

-- an ASCII character is one byte wide
narrow : {s : List ℕ} {j c w : ℕ} → Seen s j c w → c < 128 → w ≡ 1
unfolding width_of
narrow {s} {j} {c} {w} h l = h.width ∙ simp (lt-ltb c 0x80 l)

passes_1 : {s : List ℕ} {j c w : ℕ} → Seen s j c w → w ≡ 1 → Passes_1 s j
unfolding spell_from
passes_1 {s} {j} {c} {w} h n k at =
    rw h.next
    (ap (λ (p : ℕ). spell_from k (chars (drop (j + w) s)) (at + p)) (sym h.width ∙ n)
    ∙ ap (λ (p : ℕ). spell_from k (chars (drop (j + p) s)) (at + 1)) n)

passes_3 : (s : List ℕ) (j : ℕ) → Passes_1 s j → Passes_1 s (j + 1) → Passes_1 s (j + 1 + 1) → Passes s j 3
passes_3 s j a b c at =
    let e : j + 1 + 1 + 1 ≡ j + 3 = omega arith in
    let f : at + 1 + 1 + 1 ≡ at + 3 = omega arith in
    a 2 at ∙ b 1 (at + 1) ∙ c 0 (at + 1 + 1) ∙ rw (e, f)

-- a digit is ASCII
up_to_lem : (lo c hi : ℕ) → leb lo c && leb c hi ≡ true → c ≤ hi
up_to_lem lo c hi e = leb-true c hi (both (leb lo c) (leb c hi) e).1

abbrev Small : ℕ → ℕ → Type 0
Small c n = n < 16 → c < 128

digit_ascii : (c : ℕ) → Small c (digit c)
unfolding digit
digit_ascii c =
    by_test (Small c) (leb '0 c && leb c '9) (c - '0) _ (λ t h. omega (arith, up_to_lem '0 c '9 t))
    (λ t. by_test (Small c) (leb 'a c && leb c 'f) (c - 'a + 10) _ (λ u h. omega (arith, up_to_lem 'a c 'f u))
    (λ u. by_test (Small c) (leb 'A c && leb c 'F) (c - 'A + 10) 16 (λ v h. omega (arith, up_to_lem 'A c 'F v)) (λ v h. absurd (omega arith))))

module _ (s : List ℕ) (j : ℕ) where
  module _ (x : ℕ) (p : Passes_1 s j) (o : Whole s (j + 1)) where
    lands_hex : (h l w₁ w₂ : ℕ) → Seen s (j + 1) h w₁ → Seen s (j + 1 + w₁) l w₂ → octal h && hexadecimal l ≡ true
        → Lands s j (Ok (16 * digit h + digit l, 4))
    lands_hex h l w₁ w₂ a b t =
        let e = both (octal h) (hexadecimal l) t in
        let d₁ : digit h < 8 = ltb-true _ _ e.0 in
        let d₂ : digit l < 16 = ltb-true _ _ e.1 in
        let n₁ : w₁ ≡ 1 = narrow a (digit_ascii h (omega arith)) in
        let n₂ : w₂ ≡ 1 = narrow b (digit_ascii l d₂) in
        let q : j + 1 + w₁ + w₂ ≡ j + 4 - 1 = omega arith in
        let r = b.room in
        record {
          is = (
            omega arith,
            omega arith,
            rw (← q) (whole-step s (j + 1 + w₁) l w₂ b (whole-step s (j + 1) h w₁ a o)),
            passes_3 s j p (passes_1 a n₁) (rw n₁ at (passes_1 b n₂)),
          );
        }

    lands_ascii : Lands s j (ascii_escape (chars (drop (j + 1) s)) x)
    unfolding ascii_escape
    lands_ascii = one (sight_at s (j + 1)) refl
      where
        two : (h w₁ : ℕ) → Seen s (j + 1) h w₁ → (y : Option (ℕ × ℕ)) → sight_at s (j + 1 + w₁) ≡ y → Lands s j (ascii_escape (h ∷ chars (drop (j + 1 + w₁) s)) x)
        two h w₁ a None e = rw (ended _ _ e).none (lands_bad s j _)
        two h w₁ a (Some (l, w₂)) e =
            let b : Seen s (j + 1 + w₁) l w₂ = seen _ _ _ _ e in
            rw b.next (lands_test s j (octal h && hexadecimal l) _ _ (lands_hex h l w₁ w₂ a b) (λ t. lands_bad s j _))

        one : (y : Option (ℕ × ℕ)) → sight_at s (j + 1) ≡ y → Lands s j (ascii_escape (chars (drop (j + 1) s)) x)
        one None e = rw (ended _ _ e).none (lands_bad s j _)
        one (Some (h, w₁)) e = let a : Seen s (j + 1) h w₁ = seen _ _ _ _ e in rw a.next (two h w₁ a (sight_at s (j + 1 + w₁)) refl)

  module _ (c w : ℕ) (h : Seen s j c w) (o : Whole s j) where
    lands_on : (k : ℕ) → ltb k 128 ≡ true → eqb c k ≡ true → w ≡ 1
    lands_on k p e =
        let q : c ≡ k = eqb-true c k e in
        let r : k < 128 = ltb-true k 128 p in
        narrow h (omega arith)

    lands_named : (k v : ℕ) → ltb k 128 ≡ true → ltb v 128 ≡ true → eqb c k ≡ true → Lands s j (Ok (v, 2))
    lands_named k v p q e =
        let n = lands_on k p e in
        let r = h.room in
        let i : j + w ≡ j + 2 - 1 = omega arith in
        record { is = (ltb-true v 128 q, omega arith, rw (← i) (whole-step s j c w h o), passes_1 h n 0) }

    lands_x : (x : ℕ) → eqb c 'x ≡ true → Lands s j (ascii_escape (chars (drop (j + w) s)) x)
    lands_x x e =
        let n = lands_on 'x refl e in
        rw n (lands_ascii x (passes_1 h n) (rw n at (whole-step s j c w h o)))

    lands_char : (at : ℕ) → Lands s j (escape (c ∷ chars (drop (j + w) s)) at)
    unfolding escape
    lands_char at = search (lands_test, lands_bad, lands_named, lands_x) depth 14

  pub lands : (at : ℕ) → Whole s j → Lands s j (escape (chars (drop j s)) at)
  unfolding escape
  lands at o = go (sight_at s j) refl
    where
      go : (y : Option (ℕ × ℕ)) → sight_at s j ≡ y → Lands s j (escape (chars (drop j s)) at)
      go None e = rw (ended _ _ e).none (lands_bad s j _)
      go (Some (c, w)) e = let h : Seen s j c w = seen _ _ _ _ e in rw h.next (lands_char c w h o at)

whole-nil : Whole [] 0
unfolding reach chars chars_from
whole-nil = refl

-- the bytes after a front
after_front : (p : List ℕ) (o : Outcome) (l : List ℕ) → prepend p o ≡ gives l → (l' : List ℕ) × (o ≡ gives l') × (p ++ l' ≡ l)
after_front p (gives x) l e = (x, refl, cc)
after_front p (refused r) l e = let z : ◌≡◌ {A = ℕ} 0 1 = cc in let w : ⊥ = omega arith in absurd w

gives_same : (a b : List ℕ) → gives a ≡ gives b → a ≡ b
gives_same a b e = cc

formed_end : (s : List ℕ) (idx0 i : ℕ) (l : List ℕ) → length s ≤ i → rest s idx0 i ≡ gives l → Whole l 0
formed_end s idx0 i l h e = rw (← (gives_same [] l (sym (rest_end s idx0 i h) ∙ e))) whole-nil

-- THE INDUCTION over a well_formed_lem text: what holds past the end, and at each character's boundary if at all later ones, holds
-- at every boundary. A character is told by its first byte: a backslash, or another.
module _ (s : List ℕ) (P : ℕ → Type 0) where
  abbrev pub Later : ℕ → Type 0
  Later i = (j : ℕ) → i < j → j ≤ length s → Whole s j → P j

  pub by_boundary : ((i : ℕ) → length s ≤ i → P i)
      → ((i : ℕ) → Later i → i < length s → Whole s i → eqb (get_or s i 0) 'backslash ≡ true → P i)
      → ((i k w : ℕ) → Later i → i < length s → Whole s i → sight_at s i ≡ Some (k, w) → eqb (get_or s i 0) 'backslash ≡ false → P i)
      → (n i : ℕ) → length s ≤ i + n → i ≤ length s → Whole s i → P i
  by_boundary past sign other zero i m r o = past i (omega arith)
  by_boundary past sign other (suc n) i m r o =
      go (λ j a b. by_boundary past sign other n j (omega arith) b) (sight_at s i) refl (eqb (get_or s i 0) 'backslash) refl
    where
      go : Later i → (x : Option (ℕ × ℕ)) → sight_at s i ≡ x → (t : Bool) → eqb (get_or s i 0) 'backslash ≡ t → P i
      go f None p t q = past i (omega (arith, sym (reach-end s i (ended s i p)) ∙ o))
      go f (Some (k, w)) p true q = let h : Seen s i k w = seen s i k w p in sign i f (omega arith) o q
      go f (Some (k, w)) p false q = let h : Seen s i k w = seen s i k w p in other i k w f (omega arith) o p q

-- what is expanded from i on is well formed
abbrev pub Forms : List ℕ → ℕ → ℕ → Type 0
Forms s idx0 i = (l : List ℕ) → rest s idx0 i ≡ gives l → Whole l 0

formed_char : (s : List ℕ) (idx0 i k w : ℕ) → Later s (Forms s idx0) i → i < length s → Whole s i → sight_at s i ≡ Some (k, w)
    → eqb (get_or s i 0) 'backslash ≡ false → Forms s idx0 i
unfolding sight_at
formed_char s idx0 i k w f r o e t l q =
    let h : Seen s i k w = seen s i k w e in
    let m = h.moves in
    let a = after_front (take w (drop i s)) (rest s idx0 (i + w)) l
    (sym (copied w s idx0 i h.room (plain_char s i k w r e t)) ∙ q) in
    rw (← a.2) (whole_char (drop i s) a.0 k w e (f (i + w) (omega arith) h.room (whole-step s i k w h o) a.0 a.1))

formed_escape : (s : List ℕ) (idx0 i : ℕ) → Later s (Forms s idx0) i → i < length s → Whole s i → eqb (get_or s i 0) 'backslash ≡ true
    → Forms s idx0 i
unfolding stands
formed_escape s idx0 i f r o t l q = go (escape (chars (drop (i + 1) s)) (idx0 + i)) refl
  where
    b : get_or s i 0 ≡ 'backslash
    b = eqb-true _ _ t

    -- the backslash is a character of its own
    next : Whole s (i + 1)
    next =
        let e : sight_at s i ≡ Some (get_or s i 0, 1) = sym (sight_ascii s i r (omega (arith, b))) in
        whole-step s i (get_or s i 0) 1 (seen s i (get_or s i 0) 1 e) o

    go : (x : Read) → escape (chars (drop (i + 1) s)) (idx0 + i) ≡ x → Whole l 0
    go (Err y) e =
        let z : gives l ≡ refused y = sym q ∙ rest-bad s idx0 i y r (rw t e) in
        let z : ◌≡◌ {A = ℕ} 0 1 = cc in
        absurd (omega arith)
    go (Ok (v, w)) e =
        let u : Turn s idx0 i v w = turn s idx0 i v w r (rw t e) in
        let g : LandsIn s (i + 1) (Ok (v, w)) = rw e at (lands s (i + 1) (idx0 + i) next).is in
        let m = u.moves in
        let n : i + 1 + w - 1 ≡ i + w = omega arith in
        let a = after_front (v ∷ []) (rest s idx0 (i + w)) l (sym (rest_byte u) ∙ q) in
        rw (← a.2) (whole_ascii v a.0 g.0 (f (i + w) (omega arith) (omega (arith, g.1)) (rw n at g.2) a.0 a.1))

-- from a boundary on, the expansion of a well_formed_lem text is well formed
pub formed : (s : List ℕ) (idx0 n i : ℕ) → length s ≤ i + n → i ≤ length s → Whole s i → Forms s idx0 i
formed s idx0 =
    by_boundary s (Forms s idx0) (λ i h l e. formed_end s idx0 i l h e) (formed_escape s idx0) (formed_char s idx0)
