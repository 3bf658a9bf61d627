-- Laws of the reading: one byte of the expansion, and what is left of it from a place on.
use Rattle.std.specs.Prelude.{Ok, Err, ◌≡◌, refl, Bool, true, false, cond, ◌&&◌, ◌||◌, List, [], ◌∷◌, ℕ, zero, suc, ◌+◌, ◌-◌, ◌≤◌, ◌<◌, eqb, length, get_or, drop, Option, Some}
use Rattle.std.proofs.Common.{sym, ap, ◌∙◌, add-zero, add-one, arith, drop_of_length-le, drop-cons, drop-drop}
use Rattle.utf8.specs.Chars.{'backslash}
use Rattle.utf8.specs.Picks.{by_test}
use Rattle.record.specs.declared.Refusal.{Refusal}
use Rattle.escapes.specs.Escapes.{Read, ascii_escape, escape, stands, Outcome, gives, refused, prepend, expand_from, has_byte}

pub both : (a b : Bool) → a && b ≡ true → (a ≡ true) × (b ≡ true)
both true b e = (refl, e)
both false b e = (e, cc)

-- what the parts of two equal sights are
pub same_some : (c w k v : ℕ) → ◌≡◌ {A = Option (ℕ × ℕ)} (Some (c, w)) (Some (k, v)) → (c ≡ k) × (w ≡ v)
same_some c w k v e = let x : ◌≡◌ {A = ℕ × ℕ} (c, w) (k, v) = cc in (ap (λ z. z.0) x, ap (λ z. z.1) x)

-- what is read takes from one to four bytes
abbrev TakesIn : Read → Type 0
TakesIn (Ok (v, w)) = (0 < w) × (w ≤ 4)
TakesIn (Err r) = Unit {0}

record Takes (x : Read) : Type 0 where
  is : TakesIn x

takes-test : (t : Bool) (x y : Read) → Takes x → Takes y → Takes (cond t x y)
takes-test t x y f g = by_test Takes t x y (λ h. f) (λ h. g)

takes-bad : (r : Refusal) → Takes (Err r)
takes-bad r = record { is = tt }

takes_1 : (v : ℕ) → Takes (Ok (v, 1))
takes_1 v = record { is = (omega arith, omega arith) }

takes_2 : (v : ℕ) → Takes (Ok (v, 2))
takes_2 v = record { is = (omega arith, omega arith) }

takes_4 : (v : ℕ) → Takes (Ok (v, 4))
takes_4 v = record { is = (omega arith, omega arith) }

takes_ascii : (cs : List ℕ) (x : ℕ) → Takes (ascii_escape cs x)
unfolding ascii_escape
takes_ascii [] x = takes-bad _
takes_ascii (h ∷ []) x = takes-bad _
takes_ascii (h ∷ l ∷ cs) x = search (takes-test, takes-bad, takes_4)

takes-escape : (cs : List ℕ) (at : ℕ) → Takes (escape cs at)
unfolding escape
takes-escape [] at = takes-bad _
takes-escape (c ∷ cs) at = search (takes-test, takes-bad, takes_2, takes_ascii) depth 12

takes : (b : ℕ) (s : List ℕ) (at : ℕ) → Takes (stands b s at)
unfolding stands
takes b s at = search (takes-test, takes_1, takes-escape)

-- THE TURN: what the code knows of the read at a place i of the text
pub record Turn (s : List ℕ) (idx0 i v w : ℕ) : Type 0 where
  pub within : i < length s
  pub moves : 0 < w
  pub small : w ≤ 4
  pub is : stands (get_or s i 0) (drop (i + 1) s) (idx0 + i) ≡ Ok (v, w)

pub turn : (s : List ℕ) (idx0 i v w : ℕ) → i < length s → stands (get_or s i 0) (drop (i + 1) s) (idx0 + i) ≡ Ok (v, w) → Turn s idx0 i v w
turn s idx0 i v w l e =
    let o : TakesIn (Ok (v, w)) = rw e at (takes (get_or s i 0) (drop (i + 1) s) (idx0 + i)).is in
    record { within = l; moves = o.0; small = o.1; is = e }

-- after k bytes: the rest
pub skip : (k : ℕ) (s : List ℕ) (at : ℕ) → expand_from k s at ≡ expand_from 0 (drop k s) (at + k)
unfolding expand_from
skip zero s at = rw (add-zero at)
skip (suc k) [] at = refl
skip (suc k) (b ∷ s) at =
    let e : at + 1 + k ≡ at + suc k = omega arith in
    skip k s (at + 1) ∙ ap (λ (p : ℕ). expand_from 0 (drop k s) p) e

-- the expansion from the place i on
abbrev pub rest : List ℕ → ℕ → ℕ → Outcome
rest s idx0 i = expand_from 0 (drop i s) (idx0 + i)

-- the first byte of a list is read
pub first_byte : (b : ℕ) (s : List ℕ) (at v w : ℕ) → stands b s at ≡ Ok (v, w) → expand_from 0 (b ∷ s) at ≡ prepend (v ∷ []) (expand_from (w - 1) s (at + 1))
unfolding expand_from
first_byte b s at v w e = rw (e, expand_from)

pub first-bad : (b : ℕ) (s : List ℕ) (at : ℕ) (r : Refusal) → stands b s at ≡ Err r → expand_from 0 (b ∷ s) at ≡ refused r
unfolding expand_from
first-bad b s at r e = rw (e, expand_from)

pub cons-at : (s : List ℕ) (i : ℕ) → i < length s → drop i s ≡ get_or s i 0 ∷ drop (i + 1) s
cons-at s i l = rw (add-one i) (drop-cons s i 0 l)

pub rest_byte : {s : List ℕ} {idx0 i v w : ℕ} → Turn s idx0 i v w → rest s idx0 i ≡ prepend (v ∷ []) (rest s idx0 (i + w))
rest_byte {s} {idx0} {i} {v} {w} t =
    let m = t.moves in
    let e : i + 1 + (w - 1) ≡ i + w = omega arith in
    let f : idx0 + i + 1 + (w - 1) ≡ idx0 + (i + w) = omega arith in
    let g : expand_from (w - 1) (drop (i + 1) s) (idx0 + i + 1) ≡ rest s idx0 (i + w) =
    skip (w - 1) (drop (i + 1) s) (idx0 + i + 1) ∙ rw (f, drop-drop (w - 1) (i + 1) s, e) in
    rw (cons-at s i t.within) (first_byte _ _ _ _ _ t.is ∙ ap (prepend (v ∷ [])) g)

pub rest-bad : (s : List ℕ) (idx0 i : ℕ) (r : Refusal) → i < length s → stands (get_or s i 0) (drop (i + 1) s) (idx0 + i) ≡ Err r → rest s idx0 i ≡ refused r
rest-bad s idx0 i r l e = rw (cons-at s i l) (first-bad _ _ _ _ e)

pub rest_end : (s : List ℕ) (idx0 i : ℕ) → length s ≤ i → rest s idx0 i ≡ gives []
unfolding expand_from
rest_end s idx0 i l = rw (drop_of_length-le s l)

-- a list without a backslash is copied whole
neither : (x y : Bool) → x || y ≡ false → (x ≡ false) × (y ≡ false)
neither true y e = (e, cc)
neither false y e = (refl, e)

pub plain-from : (s : List ℕ) (at : ℕ) → has_byte 'backslash s ≡ false → expand_from 0 s at ≡ gives s
unfolding has_byte expand_from stands
plain-from [] at h = refl
plain-from (b ∷ s) at h =
    let e = neither (eqb b 'backslash) (has_byte 'backslash s) h in
    first_byte b s at b 1 (rw e.0) ∙ ap (prepend (b ∷ [])) (plain-from s (at + 1) e.1)

-- each byte of an expansion is made of one byte or more
abbrev pub Short : List ℕ → Outcome → Type 0
Short s o = (l : List ℕ) → o ≡ gives l → length l ≤ length s

short-more : (b v : ℕ) (s : List ℕ) (o : Outcome) → Short s o → Short (b ∷ s) (prepend (v ∷ []) o)
short-more b v s (gives x) f l e = let g = f x refl in let z : v ∷ x ≡ l = cc in omega (arith, ap length z)
short-more b v s (refused r) f l e = let z : ◌≡◌ {A = ℕ} 0 1 = cc in absurd (omega arith)

pub short-from : (k : ℕ) (s : List ℕ) (at : ℕ) → Short s (expand_from k s at)
unfolding expand_from
short-from k [] at l e = let z : [] ≡ l = cc in omega (arith, ap length z)
short-from (suc k) (b ∷ s) at l e = let f = short-from k s (at + 1) l e in omega arith
short-from zero (b ∷ s) at l e = go (λ k. short-from k s (at + 1)) (stands b s at) refl
  where
    go : ((k : ℕ) → Short s (expand_from k s (at + 1))) → (x : Read) → stands b s at ≡ x → length l ≤ length (b ∷ s)
    go f (Ok (v, w)) p = short-more b v s (expand_from (w - 1) s (at + 1)) (f (w - 1)) l (sym (first_byte b s at v w p) ∙ e)
    go f (Err r) p =
        let q : gives l ≡ refused r = sym e ∙ first-bad b s at r p in
        let z : ◌≡◌ {A = ℕ} 0 1 = cc in
        absurd (omega arith)
