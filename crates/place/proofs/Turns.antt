-- The walk from character to character: what is left to count, over what is counted.
use Rattle.std.specs.Prelude.{Ok}
use Prim.Native.Nat.{ℕ, suc, ◌+◌, ◌-◌, ◌≤◌, ◌<◌}
use mathlib.Core.Path.{◌≡◌, refl, sym, ap, ◌∙◌}
use mathlib.Core.Bool.{Bool, true, false, cond, ◌&&◌, ◌||◌}
use mathlib.Core.List.{List, [], ◌∷◌}
use native.Mathlib.Omega.{arith}
use borrow.Author.Tests.{le-ltb, lt-ltb, ltb-true, ne_eqb}
use lib.Dec.{eqb, ltb}
use lib.ListN.{length, get_or, drop}
use Rattle.utf8.specs.Chars.{'carriage_return, 'newline}
use Rattle.utf8.specs.Laws.{Whole, both, ended, sight_past, valid_whole}
use Rattle.utf8.specs.Picks.{picks, tests}
use Rattle.utf8.specs.Utf8.{chars, verdict, width_of}
use Rattle.place.specs.declared.Place.{Place}
use Rattle.place.specs.Place.{before, bytes_to, ends, line_column, lines_ended, place_at, units, units_since}
use Rattle.place.specs.Ends.{stands_by_lem}
use Rattle.place.specs.Order.{before-first, before_in, before_on}
use Rattle.place.specs.First.{Step, ends_at, first_units, first_width, step}

-- with no other byte does a line end
module _ (s : List ℕ) (i : ℕ) where
  pub ends_else : (get_or s i 0 ≡ 'newline → ⊥) → (get_or s i 0 ≡ 'carriage_return → ⊥) → false ≡ ends_at s i
  unfolding ends_at
  ends_else e f = rw (ne_eqb (get_or s i 0) 'newline e, ne_eqb (get_or s i 0) 'carriage_return f) refl

-- a plain byte: a character of its own, with which no line ends
plain-width : (a : ℕ) → a < 0x80 → 1 ≡ first_width a
unfolding first_width
plain-width a h = search picks

plain-units : (a : ℕ) → a < 0xF0 → 1 ≡ first_units a
unfolding first_units
plain-units a h = search picks

record Plain (s : List ℕ) (i : ℕ) : Type 0 where
  low : get_or s i 0 < 0x80
  width : 1 ≡ first_width (get_or s i 0)
  on : false ≡ ends_at s i

plain : (s : List ℕ) (i : ℕ) → (ltb 13 (get_or s i 0) && ltb (get_or s i 0) 128) ≡ true → Plain s i
plain s i e =
    let b = both (ltb 13 (get_or s i 0)) (ltb (get_or s i 0) 128) e in
    record {
      low = omega (tests, b);
      width = plain-width (get_or s i 0) (omega (tests, b));
      on = ends_else s i (λ q. omega (tests, b)) (λ q. omega (tests, b));
    }

-- l lines and u units are counted, and p bytes more stand before the place
unfoldable pub from : ℕ → ℕ → ℕ → List ℕ → Place
from l u p cs = record { line = l + lines_ended (before p cs) cs; column = units_since u (before p cs) cs }

-- the place stands inside the next character, or there is none
from-short : (l u p c : ℕ) (cs : List ℕ) → p < width_of c → from l u p (c ∷ cs) ≡ record { line = l; column = u }
unfolding from lines_ended units_since
from-short l u p c cs h = rw (before_in p c cs h) (ap (λ (k : ℕ). record { line = k; column = u }) (omega arith))

from-none : (l u p : ℕ) → from l u p [] ≡ record { line = l; column = u }
unfolding from before lines_ended units_since
from-none l u p = ap (λ (k : ℕ). record { line = k; column = u }) (omega arith)

from_here : (l u : ℕ) (cs : List ℕ) → from l u 0 cs ≡ record { line = l; column = u }
unfolding from lines_ended units_since
from_here l u cs = rw (before-first cs) (ap (λ (k : ℕ). record { line = k; column = u }) (omega arith))

-- one character is passed
from_step : (l u p c : ℕ) (cs : List ℕ) → width_of c ≤ p
    → from l u p (c ∷ cs) ≡ from (l + cond (ends c cs) 1 0) (cond (ends c cs) 0 (u + units c)) (p - width_of c) cs
unfolding from lines_ended units_since
from_step l u p c cs h =
    rw (before_on p c cs h)
    (ap (λ (k : ℕ). record { line = k; column = units_since (cond (ends c cs) 0 (u + units c)) (before (p - width_of c) cs) cs }) (omega arith))

none_left : (s : List ℕ) (i : ℕ) → length s ≤ i → chars (drop i s) ≡ []
none_left s i h = (ended s i (sight_past s i h)).none

-- what is known before a turn of the walk
pub record Counted (s : List ℕ) (at i l u : ℕ) : Type 0 where
  pub within : i ≤ length s
  pub whole : Whole s i
  pub not_past : i ≤ at
  pub line_few : l ≤ i
  pub column_few : u ≤ i
  pub left : from l u (at - i) (chars (drop i s)) ≡ line_column s at

pub counted_start : (s : List ℕ) (at : ℕ) → verdict s ≡ Ok tt → Counted s at 0 0 0
unfolding from line_column
counted_start s at v =
    let z : at - 0 ≡ at = omega arith in
    record {
      within = omega arith;
      whole = valid_whole s v;
      not_past = omega arith;
      line_few = omega arith;
      column_few = omega arith;
      left = rw z (ap (λ (k : ℕ). record { line = k; column = units_since 0 (before at (chars s)) (chars s) }) (omega arith));
    }

module _ (s : List ℕ) (at i l u : ℕ) (h : Counted s at i l u) where
  counted-end : length s ≤ i → ◌≡◌ {A = Place} (record { line = l; column = u }) (line_column s at)
  counted-end e = sym (from-none l u (at - i)) ∙ ap (from l u (at - i)) (sym (none_left s i e)) ∙ h.left

  counted-there : i ≡ at → ◌≡◌ {A = Place} (record { line = l; column = u }) (line_column s at)
  counted-there e =
      let z : at - i ≡ 0 = omega arith in
      sym (from_here l u (chars (drop i s))) ∙ (rw z at h.left)

  -- the walk went to its bound, which is the place or the text's end
  pub counted_done : (end : ℕ) → end ≤ i → end ≤ at → (end < at → length s ≤ end) → ◌≡◌ {A = Place} (record { line = l; column = u }) (line_column s at)
  counted_done end e f g = go (ltb end at) refl
    where
      go : (t : Bool) → ltb end at ≡ t → ◌≡◌ {A = Place} (record { line = l; column = u }) (line_column s at)
      go true q = counted-end (omega (tests, g (ltb-true _ _ q)))
      go false q = counted-there (omega (tests, h))

  module _ (e : i < length s) where
    pub here : Step s i
    here = step s i e h.whole

    pub counted-inside : at < i + first_width (get_or s i 0) → ◌≡◌ {A = Place} (record { line = l; column = u }) (line_column s at)
    counted-inside f =
        let o : Step s i = here in
        sym (from-short l u (at - i) o.code _ (omega (arith, h, o))) ∙ ap (from l u (at - i)) (sym o.next) ∙ h.left

    turn : (t : Bool) → t ≡ ends_at s i → i + first_width (get_or s i 0) ≤ at
        → from (l + cond t 1 0) (cond t 0 (u + first_units (get_or s i 0))) (at - (i + first_width (get_or s i 0))) (chars (drop (i + first_width (get_or s i 0)) s)) ≡ line_column s at
    turn t q f =
        let o : Step s i = here in
        let r : List ℕ = chars (drop (i + first_width (get_or s i 0)) s) in
        let e : ends o.code r ≡ t = sym (q ∙ o.ending) in
        let m : at - i - width_of o.code ≡ at - (i + first_width (get_or s i 0)) = omega (arith, o) in
        let a = ap (from l u (at - i)) o.next ∙ from_step l u (at - i) o.code r (omega (arith, o)) in
        cc (a, e, m, o.units_of, h.left)

    pub counted-ends : true ≡ ends_at s i → i + first_width (get_or s i 0) ≤ at → Counted s at (i + first_width (get_or s i 0)) (l + 1) 0
    counted-ends q f =
        let o : Step s i = here in
        record {
          within = o.room;
          whole = o.whole;
          not_past = f;
          line_few = omega (arith, o, h);
          column_few = omega arith;
          left = turn true q f;
        }

    pub counted-on : false ≡ ends_at s i → i + first_width (get_or s i 0) ≤ at
        → Counted s at (i + first_width (get_or s i 0)) l (u + first_units (get_or s i 0))
    counted-on q f =
        let o : Step s i = here in
        let z : l + 0 ≡ l = omega arith in
        record {
          within = o.room;
          whole = o.whole;
          not_past = f;
          line_few = omega (arith, o, h);
          column_few = omega (arith, o, h);
          left = rw z at (turn false q f);
        }

    -- a character of one byte
    module _ (a : get_or s i 0 < 0x80) (f : i + 1 ≤ at) where
      pub counted-ends-one : true ≡ ends_at s i → Counted s at (i + 1) (l + 1) 0
      counted-ends-one q =
          let w = plain-width (get_or s i 0) a in
          let r : Counted s at (i + first_width (get_or s i 0)) (l + 1) 0 = counted-ends q (omega (arith, w)) in
          rw (← w) at r

      pub counted-one : false ≡ ends_at s i → Counted s at (i + 1) l (u + 1)
      counted-one q =
          let w = plain-width (get_or s i 0) a in
          let r : Counted s at (i + first_width (get_or s i 0)) l (u + first_units (get_or s i 0)) = counted-on q (omega (arith, w)) in
          rw (← w, ← (plain-units (get_or s i 0) (omega arith))) at r

    pub counted-plain : (ltb 13 (get_or s i 0) && ltb (get_or s i 0) 128) ≡ true → i + 1 ≤ at → Counted s at (i + 1) l (u + 1)
    counted-plain q f = let p : Plain s i = plain s i q in counted-one p.low f p.on

    -- a character of more
    pub counted-wide : 0x80 ≤ get_or s i 0 → i + first_width (get_or s i 0) ≤ at → Counted s at (i + first_width (get_or s i 0)) l (u + first_units (get_or s i 0))
    counted-wide a f = counted-on (ends_else s i (λ q. omega arith) (λ q. omega arith)) f

-- THE WAY BACK, to the line: n more lines end before the place
pub record Lined (s : List ℕ) (line i n : ℕ) : Type 0 where
  pub within : i ≤ length s
  pub whole : Whole s i
  pub left : (u : ℕ) → place_at s line u ≡ i + bytes_to n u (chars (drop i s))

-- n lines more or none is the same at the end
bytes-end : (s : List ℕ) (i n u : ℕ) → length s ≤ i → bytes_to n u (chars (drop i s)) ≡ 0
unfolding bytes_to
bytes-end s i n u h = rw (none_left s i h)

pub lined_start : (s : List ℕ) (line : ℕ) → verdict s ≡ Ok tt → Lined s line 0 line
unfolding place_at
lined_start s line v = record { within = omega arith; whole = valid_whole s v; left = λ u. omega arith }

bytes-line : (s : List ℕ) (i n m u : ℕ) (o : Step s i) (t : Bool) → n ≡ suc m → t ≡ ends_at s i
    → bytes_to n u (chars (drop i s)) ≡ first_width (get_or s i 0) + bytes_to (cond t m (suc m)) u (chars (drop (i + first_width (get_or s i 0)) s))
unfolding bytes_to
bytes-line s i n m u o t p q =
    let f : t ≡ ends o.code (chars (drop (i + first_width (get_or s i 0)) s)) = q ∙ o.ending in
    rw (p, o.next, f, o.width) refl

module _ (s : List ℕ) (line i n : ℕ) (h : Lined s line i n) where
  pub lined_end : length s ≤ i → Lined s line i 0
  lined_end e =
      record { within = h.within; whole = h.whole; left = λ u. omega (arith, h.left u, bytes-end s i n u e, bytes-end s i 0 u e) }

  module _ (e : i < length s) where
    pub line_here : Step s i
    line_here = step s i e h.whole

    pub lined_ends : true ≡ ends_at s i → (n ≡ 0 → ⊥) → Lined s line (i + first_width (get_or s i 0)) (n - 1)
    lined_ends q z =
        let o : Step s i = line_here in
        record { within = o.room; whole = o.whole; left = λ u. omega (arith, h.left u, bytes-line s i n (n - 1) u o true (omega arith) q) }

    pub lined_on : false ≡ ends_at s i → (n ≡ 0 → ⊥) → Lined s line (i + first_width (get_or s i 0)) n
    lined_on q z =
        let o : Step s i = line_here in
        let m : suc (n - 1) ≡ n = omega arith in
        record { within = o.room; whole = o.whole; left = λ u. omega (arith, h.left u, rw m at (bytes-line s i n (n - 1) u o false (sym m) q)) }

    pub lined_plain : (ltb 13 (get_or s i 0) && ltb (get_or s i 0) 128) ≡ true → (n ≡ 0 → ⊥) → Lined s line (i + 1) n
    lined_plain q z = let p : Plain s i = plain s i q in rw p.width (lined_on p.on z)

-- and along it: n more units
pub record Along (s : List ℕ) (start column i n : ℕ) : Type 0 where
  pub within : i ≤ length s
  pub whole : Whole s i
  pub left : start + bytes_to 0 column (chars (drop start s)) ≡ i + bytes_to 0 n (chars (drop i s))

module _ (s : List ℕ) (start column i n : ℕ) (h : Along s start column i n) where
  pub along-end : length s ≤ i → i ≡ start + bytes_to 0 column (chars (drop start s))
  along-end e = omega (arith, h.left, bytes-end s i 0 n e)

  module _ (e : i < length s) where
    pub along_here : Step s i
    along_here = step s i e h.whole

    stops : (t : Bool) → ((eqb (get_or s i 0) 'newline || eqb (get_or s i 0) 'carriage_return) || ltb n (first_units (get_or s i 0))) ≡ t
        → bytes_to 0 n (chars (drop i s)) ≡ cond t 0 (first_width (get_or s i 0) + bytes_to 0 (n - first_units (get_or s i 0)) (chars (drop (i + first_width (get_or s i 0)) s)))
    unfolding bytes_to
    stops t q =
        let o : Step s i = along_here in
        rw (← q, o.next, stands_by_lem o.code (chars (drop (i + first_width (get_or s i 0)) s)), o.same 'newline (omega arith), o.same 'carriage_return (omega arith), o.units_of, o.width) refl

    -- before an LF or a CR
    pub along-ends : (eqb (get_or s i 0) 'newline || eqb (get_or s i 0) 'carriage_return) ≡ true → i ≡ start + bytes_to 0 column (chars (drop start s))
    along-ends q = omega (arith, h.left, stops true (rw q refl))

    module _ (f : get_or s i 0 ≡ 'newline → ⊥) (g : get_or s i 0 ≡ 'carriage_return → ⊥) where
      no_end : (t : Bool) → ltb n (first_units (get_or s i 0)) ≡ t
          → ((eqb (get_or s i 0) 'newline || eqb (get_or s i 0) 'carriage_return) || ltb n (first_units (get_or s i 0))) ≡ t
      no_end t q = rw (ne_eqb (get_or s i 0) 'newline f, ne_eqb (get_or s i 0) 'carriage_return g) q

      pub along-inside : n < first_units (get_or s i 0) → i ≡ start + bytes_to 0 column (chars (drop start s))
      along-inside q = omega (arith, h.left, stops true (no_end true (lt-ltb _ _ q)))

      pub along-on : first_units (get_or s i 0) ≤ n → Along s start column (i + first_width (get_or s i 0)) (n - first_units (get_or s i 0))
      along-on q =
          let o : Step s i = along_here in
          record {
            within = o.room;
            whole = o.whole;
            left = omega (arith, h.left, stops false (no_end false (le-ltb _ _ q)));
          }
