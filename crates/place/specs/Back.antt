-- Over characters: from the line and the column of the characters xs, before ys, back to their bytes.
use Prim.Native.Nat.{ℕ, zero, suc, ◌+◌, ◌-◌, ◌≤◌, ◌<◌}
use Rattle.std.specs.Prelude.{◌≡◌, Bool, true, false, cond, ◌||◌, eqb, ltb, length}
use Rattle.std.proofs.Math.Path.{refl, ap}
use Rattle.std.proofs.Common.{sym, ◌∙◌}
use mathlib.Core.List.{List, [], ◌∷◌, ◌++◌}
use native.Mathlib.Omega.{arith}
use borrow.Author.Tests.{eqb-true, le-ltb, lt-ltb, ne_eqb}
use Rattle.utf8.specs.Chars.{'carriage_return, 'newline}
use Rattle.utf8.specs.Picks.{tests}
use Rattle.utf8.specs.Utf8.{width_of}
use Rattle.place.specs.Ends.{ends_by, newline_ends, stands_by_lem}
use Rattle.place.specs.Order.{before-first, before_on, units-on}
use Rattle.place.specs.Place.{before, bytes_to, ends, line_end, lines_ended, starts_newline, units, units_since}

-- the bytes of characters
unfoldable pub size : List ℕ → ℕ
size [] = 0
size (c ∷ cs) = width_of c + size cs

-- the last of them is a CR
unfoldable pub ends_return : List ℕ → Bool
ends_return [] = false
ends_return (c ∷ []) = eqb c 'carriage_return
ends_return (c ∷ d ∷ cs) = ends_return (d ∷ cs)

-- no character has no unit
units-some : (c : ℕ) → 0 < units c
unfolding units
units-some c = go (ltb 0xFFFF c)
  where
    go : (x : Bool) → 0 < cond x 2 1
    go true = omega arith
    go false = omega arith

-- r bytes further than xs stand their characters and those before r
pub before_past : (xs ys : List ℕ) (r : ℕ) → before (size xs + r) (xs ++ ys) ≡ length xs + before r ys
unfolding size
before_past [] ys r =
    let e : 0 + r ≡ r = omega arith in
    rw e (omega arith)
before_past (c ∷ xs) ys r =
    let e : width_of c + size xs + r - width_of c ≡ size xs + r = omega arith in
    let f : before (width_of c + size xs + r) (c ∷ (xs ++ ys)) ≡ suc (before (width_of c + size xs + r - width_of c) (xs ++ ys)) =
    before_on (width_of c + size xs + r) c (xs ++ ys) (omega arith)
    in
    let g : before (width_of c + size xs + r - width_of c) (xs ++ ys) ≡ length xs + before r ys = rw e (before_past xs ys r) in
    omega arith

pub before-whole : (xs ys : List ℕ) → before (size xs) (xs ++ ys) ≡ length xs
before-whole xs ys =
    let z : size xs + 0 ≡ size xs = omega arith in
    omega (arith, rw z at (before_past xs ys 0), before-first ys)

-- ---- there and back
-- with no line more and no unit more the place is here
bytes_here : (ys : List ℕ) → bytes_to 0 0 ys ≡ 0
unfolding bytes_to
bytes_here [] = refl
bytes_here (c ∷ ys) = rw (lt-ltb 0 (units c) (units-some c)) (go (ltb 0 (line_end (c ∷ ys))))
  where
    go : (x : Bool) → cond (x || true) 0 (width_of c + bytes_to zero (0 - units c) ys) ≡ 0
    go true = refl
    go false = refl

-- u units that came before count only where no line ends
less : ℕ → ℕ → ℕ → ℕ
less zero u n = n - u
less (suc m) u n = n

less_none : (l n : ℕ) → less l 0 n ≡ n
unfolding less
less_none zero n = omega arith
less_none (suc l) n = refl

-- xs before ys: not the two halves of a CR LF
abbrev pub Unsplit : List ℕ → List ℕ → Type 0
Unsplit xs ys = ends_return xs ≡ true → starts_newline ys ≡ true → ⊥

whole-rest : (c : ℕ) (xs ys : List ℕ) → Unsplit (c ∷ xs) ys → Unsplit xs ys
unfolding ends_return
whole-rest c [] ys h p q = let z : ◌≡◌ {A = ℕ} 0 1 = cc in absurd (omega arith)
whole-rest c (d ∷ xs) ys h p q = h p q

-- a character with which no line ends, and none with those after it, is neither LF nor CR
no_newline : (c : ℕ) (cs : List ℕ) (t : Bool) → eqb c 'newline ≡ t → ends c cs ≡ false → t ≡ false
no_newline c cs true q e = rw (ends_by c cs, q) at e
no_newline c cs false q e = refl

return_before : (c : ℕ) (cs : List ℕ) → eqb c 'carriage_return ≡ true → ends c cs ≡ false → starts_newline cs ≡ true
return_before c cs q e = go (eqb c 'newline) (starts_newline cs) refl refl
  where
    go : (x y : Bool) → eqb c 'newline ≡ x → starts_newline cs ≡ y → y ≡ true
    go true y p r = let z : true ≡ false = rw (ends_by c cs, p) at e in let w : ◌≡◌ {A = ℕ} 0 1 = cc in absurd (omega arith)
    go false true p r = refl
    go false false p r = let z : true ≡ false = rw (ends_by c cs, p, q, r) at e in let w : ◌≡◌ {A = ℕ} 0 1 = cc in absurd (omega arith)

no_return : (c : ℕ) (xs ys : List ℕ) (t : Bool) → eqb c 'carriage_return ≡ t → Unsplit (c ∷ xs) ys → ends c (xs ++ ys) ≡ false
    → lines_ended (length xs) (xs ++ ys) ≡ 0 → t ≡ false
unfolding ends_return starts_newline lines_ended
no_return c xs ys false q h e z = refl
no_return c [] ys true q h e z = absurd (h q (return_before c ys q e))
no_return c (d ∷ xs) ys true q h e z =
    let f : ends d (xs ++ ys) ≡ true = newline_ends d (xs ++ ys) (return_before c (d ∷ (xs ++ ys)) q e) in
    let g : 1 + lines_ended (length xs) (xs ++ ys) ≡ 0 = rw f at z in
    absurd (omega arith)

-- one character more in front, by whether a line ends with it, and whether one ends after it
module _ (c : ℕ) (xs ys : List ℕ) (u : ℕ) (h : Unsplit (c ∷ xs) ys) where
  abbrev Back : ℕ → ℕ → ℕ → Type 0
  Back v l n = bytes_to l (less l v n) (xs ++ ys) ≡ size xs

  back-ends : (l n : ℕ) → ends c (xs ++ ys) ≡ true → Back 0 l n → bytes_to (suc l) n (c ∷ (xs ++ ys)) ≡ width_of c + size xs
  unfolding bytes_to
  back-ends l n e b =
      let k : bytes_to l n (xs ++ ys) ≡ size xs = rw (less_none l n) at b in
      rw e (omega arith)

  back_on : (l n : ℕ) → ends c (xs ++ ys) ≡ false → lines_ended (length xs) (xs ++ ys) ≡ l → (l ≡ 0 → u + units c ≤ n) → Back (u + units c) l n
      → bytes_to l (less l u n) (c ∷ (xs ++ ys)) ≡ width_of c + size xs
  unfolding bytes_to less
  back_on zero n e z f b =
      let p = no_newline c (xs ++ ys) (eqb c 'newline) refl e in
      let q = no_return c xs ys (eqb c 'carriage_return) refl h e z in
      let m : n - u - units c ≡ n - (u + units c) = omega arith in
      rw (stands_by_lem c (xs ++ ys), p, q, le-ltb (n - u) (units c) (omega (arith, f refl)), m) (omega arith)
  back_on (suc l) n e z f b = rw e (omega arith)

units-step : (u n c : ℕ) (cs : List ℕ) (t : Bool) → ends c cs ≡ t → units_since u (suc n) (c ∷ cs) ≡ units_since (cond t 0 (u + units c)) n cs
unfolding units_since
units-step u n c cs t e = rw e

-- all that is asked of the characters xs, where v units came before them
abbrev Found : List ℕ → List ℕ → ℕ → Type 0
Found xs cs v = bytes_to (lines_ended (length xs) cs) (less (lines_ended (length xs) cs) v (units_since v (length xs) cs)) cs ≡ size xs

back_from : (xs ys : List ℕ) (u : ℕ) → Unsplit xs ys → Found xs (xs ++ ys) u
unfolding size lines_ended units_since less
back_from [] ys u h = let e : u - u ≡ 0 = omega arith in rw e (bytes_here ys)
back_from (c ∷ xs) ys u h = go (ends c (xs ++ ys)) refl (λ v. back_from xs ys v (whole-rest c xs ys h))
  where
    go : (t : Bool) → ends c (xs ++ ys) ≡ t → ((v : ℕ) → Found xs (xs ++ ys) v) → Found (c ∷ xs) (c ∷ (xs ++ ys)) u
    go true e f =
        let l = lines_ended (length xs) (xs ++ ys) in
        let g : 1 + l ≡ suc l = omega arith in
        rw (units-step u (length xs) c (xs ++ ys) true e, e, g) (back-ends c xs ys u h l (units_since 0 (length xs) (xs ++ ys)) e (f 0))
    go false e f =
        let l = lines_ended (length xs) (xs ++ ys) in
        let g : 0 + l ≡ l = omega arith in
        rw (units-step u (length xs) c (xs ++ ys) false e, e, g)
        (back_on c xs ys u h l (units_since (u + units c) (length xs) (xs ++ ys)) e refl (λ z. units-on (u + units c) (length xs) (xs ++ ys) z) (f (u + units c)))

pub back : (xs ys : List ℕ) → Unsplit xs ys → bytes_to (lines_ended (length xs) (xs ++ ys)) (units_since 0 (length xs) (xs ++ ys)) (xs ++ ys) ≡ size xs
back xs ys h = rw (less_none (lines_ended (length xs) (xs ++ ys)) (units_since 0 (length xs) (xs ++ ys))) at (back_from xs ys 0 h)

-- ---- the place of a line and a column: which characters stand before it
pub record Lands (n u v : ℕ) (cs : List ℕ) : Type 0 where
  pub front : List ℕ
  pub rest : List ℕ
  pub joined : cs ≡ front ++ rest
  pub bytes : bytes_to n u cs ≡ size front
  pub not_split : Unsplit front rest
  pub moved : 0 < n → 0 < length cs → 0 < length front
  pub lines : lines_ended (length front) cs ≤ n
  -- v units came before them
  pub columns : lines_ended (length front) cs ≡ n → units_since v (length front) cs ≤ u + cond (eqb n 0) v 0

none-whole : (ys : List ℕ) → Unsplit [] ys
unfolding ends_return
none-whole ys p q = let z : ◌≡◌ {A = ℕ} 0 1 = cc in absurd (omega arith)

-- at once
lands_here : (u v : ℕ) (n : ℕ) (cs : List ℕ) → bytes_to n u cs ≡ 0 → (0 < n → 0 < length cs → ⊥) → Lands n u v cs
unfolding size lines_ended units_since
lands_here u v n cs e f =
    record {
      front = [];
      rest = cs;
      joined = refl;
      bytes = e;
      not_split = none-whole cs;
      moved = λ g h. absurd (f g h);
      lines = omega arith;
      columns = λ z. by n (sym z);
    }
  where
    by : (m : ℕ) → m ≡ 0 → v ≤ u + cond (eqb m 0) v 0
    by m z = rw z (omega arith)

-- after one character more
module _ (c : ℕ) (cs : List ℕ) where
  whole-on : (xs ys : List ℕ) → Unsplit xs ys → (length xs ≡ 0 → eqb c 'carriage_return ≡ true → starts_newline ys ≡ true → ⊥) → Unsplit (c ∷ xs) ys
  unfolding ends_return
  whole-on [] ys h f p q = f refl p q
  whole-on (d ∷ xs) ys h f p q = h p q

  lands_on : (n m u w v x : ℕ) (t : Bool) → ends c cs ≡ t → bytes_to n u (c ∷ cs) ≡ width_of c + bytes_to m w cs → cond t 1 0 + m ≡ n
      → x ≡ cond t 0 (v + units c) → w + cond (eqb m 0) x 0 ≤ u + cond (eqb n 0) v 0
      → ((r : Lands m w x cs) → length r.front ≡ 0 → eqb c 'carriage_return ≡ true → starts_newline r.rest ≡ true → ⊥)
      → Lands m w x cs → Lands n u v (c ∷ cs)
  unfolding size lines_ended
  lands_on n m u w v x t e b k i f g r =
      record {
        front = c ∷ r.front;
        rest = r.rest;
        joined = ap (λ (l : List ℕ). c ∷ l) r.joined;
        bytes = b ∙ ap (λ (j : ℕ). width_of c + j) r.bytes;
        not_split = whole-on r.front r.rest r.not_split (g r);
        moved = λ o p. omega arith;
        lines = rw e (omega (arith, r.lines));
        columns = λ o. rw (units-step v (length r.front) c cs t e, ← i) (omega (arith, f, r.columns (omega (arith, rw e at o))));
      }

nothing_before : (xs ys cs : List ℕ) → cs ≡ xs ++ ys → length xs ≡ 0 → cs ≡ ys
nothing_before [] ys cs e z = e
nothing_before (x ∷ xs) ys cs e z = absurd (omega arith)

-- no CR is alone that an LF follows
alone : (c : ℕ) (cs : List ℕ) → ends c cs ≡ true → eqb c 'carriage_return ≡ true → starts_newline cs ≡ true → ⊥
alone c cs e p q =
    let k : c ≡ 'carriage_return = eqb-true c 'carriage_return p in
    let z : false ≡ true = rw (ends_by c cs, k, q) at e in
    let w : ◌≡◌ {A = ℕ} 0 1 = cc in
    absurd (omega arith)

none-starts : (cs ys : List ℕ) → cs ≡ ys → (0 < length cs → ⊥) → starts_newline ys ≡ true → ⊥
unfolding starts_newline
none-starts [] ys e f q = let w : ◌≡◌ {A = ℕ} 0 1 = cc in absurd (omega arith)
none-starts (c ∷ cs) ys e f q = f (omega arith)

some-lines : (m v : ℕ) → cond (eqb (suc m) 0) v 0 ≡ 0
some-lines m v = rw (ne_eqb (suc m) 0 (λ e. omega arith))

pub no-units : (t : Bool) → ◌≡◌ {A = ℕ} (cond t 0 0) 0
no-units true = refl
no-units false = refl

-- three tests that all fail
none : (x y z : Bool) → ((x || y) || z) ≡ false → (x ≡ false) × (y ≡ false) × (z ≡ false)
none true y z e = let w : ◌≡◌ {A = ℕ} 0 1 = cc in absurd (omega arith)
none false true z e = let w : ◌≡◌ {A = ℕ} 0 1 = cc in absurd (omega arith)
none false false z e = (refl, refl, e)

plain-ends : (c : ℕ) (cs : List ℕ) → eqb c 'newline ≡ false → eqb c 'carriage_return ≡ false → ends c cs ≡ false
plain-ends c cs e f = rw (ends_by c cs, e, f)

-- where the way back stops on a line
abbrev stop : ℕ → ℕ → Bool
stop c u = (eqb c 'newline || eqb c 'carriage_return) || ltb u (units c)

along-stop : (c u : ℕ) (cs : List ℕ) → stop c u ≡ true → bytes_to 0 u (c ∷ cs) ≡ 0
unfolding bytes_to
along-stop c u cs e = rw (stands_by_lem c cs, e)

along-on : (c u : ℕ) (cs : List ℕ) → stop c u ≡ false → bytes_to 0 u (c ∷ cs) ≡ width_of c + bytes_to 0 (u - units c) cs
unfolding bytes_to
along-on c u cs e = rw (stands_by_lem c cs, e)

line_on : (n c u : ℕ) (cs : List ℕ) (t : Bool) → ends c cs ≡ t → bytes_to (suc n) u (c ∷ cs) ≡ width_of c + bytes_to (cond t n (suc n)) u cs
unfolding bytes_to
line_on n c u cs t e = rw e

pub lands : (n u v : ℕ) (cs : List ℕ) → Lands n u v cs
unfolding bytes_to
lands n u v [] = lands_here u v n [] refl (λ g h. absurd (omega arith))
lands zero u v (c ∷ cs) = go (stop c u) refl (lands zero (u - units c) (v + units c) cs)
  where
    go : (t : Bool) → stop c u ≡ t → Lands zero (u - units c) (v + units c) cs → Lands zero u v (c ∷ cs)
    go true e r = lands_here u v 0 (c ∷ cs) (along-stop c u cs e) (λ g h. absurd (omega arith))
    go false e r =
        let n = none (eqb c 'newline) (eqb c 'carriage_return) (ltb u (units c)) e in
        lands_on c cs 0 0 u (u - units c) v (v + units c) false (plain-ends c cs n.0 n.1) (along-on c u cs e) refl refl (omega (tests, n.2))
        (λ q z p k. let f : false ≡ true = sym n.1 ∙ p in let w : ◌≡◌ {A = ℕ} 0 1 = cc in absurd (omega arith)) r
lands (suc m) u v (c ∷ cs) = go (ends c cs) refl (lands m u 0 cs) (lands (suc m) u (v + units c) cs)
  where
    go : (t : Bool) → ends c cs ≡ t → Lands m u 0 cs → Lands (suc m) u (v + units c) cs → Lands (suc m) u v (c ∷ cs)
    go true e r q =
        lands_on c cs (suc m) m u u v 0 true e (line_on m c u cs true e) (omega arith) refl (omega (arith, no-units (eqb m 0)))
        (λ y z p k. alone c cs e p (rw (nothing_before y.front y.rest cs y.joined z) k)) r
    go false e r q =
        lands_on c cs (suc m) (suc m) u u v (v + units c) false e (line_on m c u cs false e) (omega arith) refl (omega (arith, some-lines m v, some-lines m (v + units c)))
        (λ y z p k. none-starts cs y.rest (nothing_before y.front y.rest cs y.joined z) (λ o. omega (arith, y.moved (omega arith) o)) k) q

-- ---- a later line, or the same line and no smaller column, is no earlier place
pub back_grows : (n u m v : ℕ) (cs : List ℕ) → n ≤ m → (n ≡ m → u ≤ v) → bytes_to n u cs ≤ bytes_to m v cs
unfolding bytes_to
back_grows n u m v [] h f = omega arith
back_grows zero u zero v (c ∷ cs) h f = go (stop c u) refl (back_grows zero (u - units c) zero (v - units c) cs h (λ e. omega (arith, f refl)))
  where
    go : (t : Bool) → stop c u ≡ t → bytes_to 0 (u - units c) cs ≤ bytes_to 0 (v - units c) cs → bytes_to 0 u (c ∷ cs) ≤ bytes_to 0 v (c ∷ cs)
    go true e r = rw (along-stop c u cs e) (omega arith)
    go false e r =
        let n = none (eqb c 'newline) (eqb c 'carriage_return) (ltb u (units c)) e in
        let k : stop c v ≡ false = rw (n.0, n.1) (le-ltb v (units c) (omega (tests, n.2, f refl))) in
        rw (along-on c u cs e, along-on c v cs k) (omega arith)
back_grows zero u (suc m) v (c ∷ cs) h f = go (stop c u) refl (back_grows zero (u - units c) (suc m) v cs h (λ e. absurd (omega arith)))
  where
    go : (t : Bool) → stop c u ≡ t → bytes_to 0 (u - units c) cs ≤ bytes_to (suc m) v cs → bytes_to 0 u (c ∷ cs) ≤ bytes_to (suc m) v (c ∷ cs)
    go true e r = rw (along-stop c u cs e) (omega arith)
    go false e r =
        let n = none (eqb c 'newline) (eqb c 'carriage_return) (ltb u (units c)) e in
        rw (along-on c u cs e, line_on m c v cs false (plain-ends c cs n.0 n.1)) (omega arith)
back_grows (suc n) u zero v (c ∷ cs) h f = absurd (omega arith)
back_grows (suc n) u (suc m) v (c ∷ cs) h f =
    go (ends c cs) refl (back_grows n u m v cs (omega arith) (λ e. f (ap suc e))) (back_grows (suc n) u (suc m) v cs h f)
  where
    go : (t : Bool) → ends c cs ≡ t → bytes_to n u cs ≤ bytes_to m v cs → bytes_to (suc n) u cs ≤ bytes_to (suc m) v cs
        → bytes_to (suc n) u (c ∷ cs) ≤ bytes_to (suc m) v (c ∷ cs)
    go true e r q = rw (line_on n c u cs true e, line_on m c v cs true e) (omega arith)
    go false e r q = rw (line_on n c u cs false e, line_on m c v cs false e) (omega arith)
