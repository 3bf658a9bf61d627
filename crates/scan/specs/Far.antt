-- Where a number of characters leads: over lists of characters (`Far`), and over the bytes of a text (`Lands`).
use Rattle.std.specs.Prelude.{◌+◌, ◌-◌, ◌<◌, ◌≤◌, suc, zero, ℕ, Bool, drop, length, Option, Some, None, Ok, Err}
use Rattle.std.proofs.Common.{suc-le-suc, le_of_suc-le-suc, ◌∙◌, ap, sym}
use native.Mathlib.Omega.{arith}
use Rattle.std.proofs.Math.Bool.{false, true}
use mathlib.Core.List.{List, [], ◌∷◌}
use Rattle.std.proofs.Math.Path.{◌≡◌, refl}
use Rattle.utf8.proofs.Laws.{seen}
use Rattle.utf8.specs.Laws.{Seen, ended}
use Rattle.utf8.specs.Utf8.{chars, sight_at, width_of}
use Rattle.scan.specs.Until.{left, until}
use Rattle.scan.specs.Shapes.{Found, same_err, same_ok}

-- the place after k of the characters cs
unfoldable pub after : ℕ → List ℕ → ℕ → ℕ
after zero cs at = at
after (suc k) [] at = at
after (suc k) (c ∷ cs) at = after k cs (at + width_of c)

-- m of the characters cs lead from the place at to the place p
pub record Far (cs : List ℕ) (at m p : ℕ) : Type 0 where
  pub within : m ≤ length cs
  pub there : p ≡ after m cs at

pub far_none : (cs : List ℕ) (at : ℕ) → Far cs at 0 at
unfolding after
far_none cs at = record { within = omega arith; there = refl }

pub far_one : (c : ℕ) (cs : List ℕ) (at m p : ℕ) → Far cs (at + width_of c) m p → Far (c ∷ cs) at (suc m) p
unfolding after
far_one c cs at m p h = record { within = suc-le-suc h.within; there = h.there }

-- where a reader stops, for its answers in turn
pub record Stops (cs : List ℕ) (at n m p : ℕ) : Type 0 where
  pub more : n ≤ m
  pub far : Far cs at (m - n) p

pub stops_on : (c : ℕ) (cs : List ℕ) (at n m p : ℕ) → Stops cs (at + width_of c) (n + 1) m p → Stops (c ∷ cs) at n m p
stops_on c cs at n m p h =
    let q : suc (m - (n + 1)) ≡ m - n = omega arith in
    record { more = omega arith; far = rw q at (far_one c cs at (m - (n + 1)) p h.far) }

pub stops_here : (cs : List ℕ) (at n : ℕ) → Stops cs at n n at
stops_here cs at n = let q : 0 ≡ n - n = omega arith in record { more = omega arith; far = rw q at (far_none cs at) }

pub stops_by : (cs : List ℕ) (at n m p : ℕ) → Far cs at m p → Stops cs at n (n + m) p
stops_by cs at n m p f = let q : m ≡ n + m - n = omega arith in record { more = omega arith; far = rw q at f }

module _ {S : Type 0} (step : S → ℕ → S) (done : S → Bool) where
  module _ (p m : ℕ) where
    -- one turn, both ways: what the rest says, if it is asked
    turn : (c : ℕ) (cs : List ℕ) (st : S) (at n : ℕ) (r : Found) → until step done st (c ∷ cs) at n ≡ r
        → (r ≡ Ok (at, n) → done (step st c) ≡ true → Stops (c ∷ cs) at n m p)
        → (until step done (step st c) cs (at + width_of c) (n + 1) ≡ r → Stops cs (at + width_of c) (n + 1) m p)
        → Stops (c ∷ cs) at n m p
    unfolding until
    turn c cs st at n r e f g = go (done (step st c)) refl
      where
        go : (d : Bool) → done (step st c) ≡ d → Stops (c ∷ cs) at n m p
        go true q = f (sym (rw (q, until) at e)) q
        go false q = stops_on c cs at n m p (g (rw (q, until) at e))

    pub until_nothing : (cs : List ℕ) (st : S) (at n : ℕ) → until step done st cs at n ≡ Err (p, m) → Stops cs at n m p
    unfolding until
    until_nothing [] st at n e = let q = same_err _ _ _ _ e in rw (← q.0, ← q.1) (stops_here [] at n)
    until_nothing (c ∷ cs) st at n e =
        turn c cs st at n (Err (p, m)) e (λ u _. let z : ◌≡◌ {A = ℕ} 0 1 = cc in absurd (omega arith))
        (until_nothing cs (step st c) (at + width_of c) (n + 1))

    pub until-before : (cs : List ℕ) (st : S) (at n : ℕ) → until step done st cs at n ≡ Ok (p, m) → Stops cs at n m p
    unfolding until
    until-before [] st at n e = let z : ◌≡◌ {A = ℕ} 0 1 = cc in absurd (omega arith)
    until-before (c ∷ cs) st at n e =
        turn c cs st at n (Ok (p, m)) e (λ u _. let q = same_ok _ _ _ _ u in rw (q.0, q.1) (stops_here (c ∷ cs) at n))
        (until-before cs (step st c) (at + width_of c) (n + 1))

-- where the character that ends the reading is one byte wide, the place after it
module _ {S : Type 0} (step : S → ℕ → S) (done : S → Bool) (narrow : (st : S) (k : ℕ) → done st ≡ false → done (step st k) ≡ true → width_of k ≡ 1) (p m : ℕ) where
  past_on : (c : ℕ) (cs : List ℕ) (at n : ℕ) → Far cs (at + width_of c) (m - (n + 1) + 1) (p + 1) × (n + 1 ≤ m) → Far (c ∷ cs) at (m - n + 1) (p + 1) × (n ≤ m)
  past_on c cs at n h =
      let q : suc (m - (n + 1) + 1) ≡ m - n + 1 = omega arith in
      (rw q at (far_one c cs at (m - (n + 1) + 1) (p + 1) h.0), omega arith)

  pub until_past : (cs : List ℕ) (st : S) (at n : ℕ) → done st ≡ false → until step done st cs at n ≡ Ok (p, m) → Far cs at (m - n + 1) (p + 1) × (n ≤ m)
  unfolding until after
  until_past [] st at n b e = let z : ◌≡◌ {A = ℕ} 0 1 = cc in absurd (omega arith)
  until_past (c ∷ cs) st at n b e = go (done (step st c)) refl (until_past cs (step st c) (at + width_of c) (n + 1))
    where
      go : (d : Bool) → done (step st c) ≡ d
          → (done (step st c) ≡ false → until step done (step st c) cs (at + width_of c) (n + 1) ≡ Ok (p, m) → Far cs (at + width_of c) (m - (n + 1) + 1) (p + 1) × (n + 1 ≤ m))
          → Far (c ∷ cs) at (m - n + 1) (p + 1) × (n ≤ m)
      go true q f =
          let u : ◌≡◌ {A = Found} (Ok (at, n)) (Ok (p, m)) = rw (q, until) at e in
          let x : at ≡ p = (same_ok _ _ _ _ u).0 in
          let y : n ≡ m = (same_ok _ _ _ _ u).1 in
          let w : width_of c ≡ 1 = narrow st c b q in
          let z : 1 ≡ m - n + 1 = omega arith in
          (rw (← z) (record { within = omega arith; there = omega arith }), omega arith)
      go false q f = past_on c cs at n (f q (rw (q, until) at e))

-- from the count 0
pub from_0 : (cs : List ℕ) (at m p : ℕ) → Stops cs at 0 m p → Far cs at m p
from_0 cs at m p h = let q : m - 0 ≡ m = omega arith in rw q at h.far

pub past_0 : (cs : List ℕ) (at m p : ℕ) → Far cs at (m - 0 + 1) p × (0 ≤ m) → Far cs at (m + 1) p
past_0 cs at m p h = let q : m - 0 + 1 ≡ m + 1 = omega arith in rw q at h.0

-- m characters, and then j more
pub then : (m : ℕ) (cs : List ℕ) (at p j q : ℕ) → Far cs at m p → Far (drop m cs) p j q → Far cs at (m + j) q
unfolding after
then zero cs at p j q f g = let z : j ≡ 0 + j = omega arith in rw (← z, ← f.there) g
then (suc m) [] at p j q f g = absurd (omega (arith, f.within))
then (suc m) (c ∷ cs) at p j q f g =
    let z : suc (m + j) ≡ suc m + j = omega arith in
    let f' : Far cs (at + width_of c) m p = record { within = le_of_suc-le-suc f.within; there = f.there } in
    rw z at (far_one c cs at (m + j) q (then m cs (at + width_of c) p j q f' g))

pub one_more : (c : ℕ) (cs : List ℕ) (at m p : ℕ) → Far cs (at + width_of c) m p → Far (c ∷ cs) at (1 + m) p
one_more c cs at m p f = let z : suc m ≡ 1 + m = omega arith in rw z at (far_one c cs at m p f)

pub one_far : (c : ℕ) (cs : List ℕ) (at : ℕ) → Far (c ∷ cs) at 1 (at + width_of c)
one_far c cs at = far_one c cs at 0 (at + width_of c) (far_none cs (at + width_of c))

pub record Lands (s : List ℕ) (at m p : ℕ) : Type 0 where
  pub rest : drop m (chars (drop at s)) ≡ chars (drop p s)
  pub there : p ≡ after m (chars (drop at s)) at
  pub within : m ≤ length (chars (drop at s))
  pub room : at ≤ length s → p ≤ length s
  pub inside : 0 < m → p ≤ length s
  pub gone : at + m ≤ p

-- there is a first character
first : (s : List ℕ) (at : ℕ) → 0 < length (chars (drop at s)) → (k : ℕ) × (w : ℕ) × Seen s at k w
first s at h = go (sight_at s at) refl
  where
    go : (x : Option (ℕ × ℕ)) → sight_at s at ≡ x → (k : ℕ) × (w : ℕ) × Seen s at k w
    go (Some (k, w)) e = (k, w, seen s at k w e)
    go None e = let q : length (chars (drop at s)) ≡ 0 = ap length (ended s at e).none in absurd (omega arith)

lands_on : (s : List ℕ) (at k w m p : ℕ) → Seen s at k w → Lands s (at + w) m p → Lands s at (suc m) p
unfolding after
lands_on s at k w m p h l = record {
  rest = rw h.next l.rest;
  there = rw (h.next, ← h.width) l.there;
  within = rw h.next (suc-le-suc l.within);
  room = λ r. l.room h.room;
  inside = λ r. l.room h.room;
  gone = omega (arith, l.gone, h.moves);
}

far_on : (s : List ℕ) (at k w m p : ℕ) → Seen s at k w → Far (chars (drop at s)) at (suc m) p → Far (chars (drop (at + w) s)) (at + w) m p
unfolding after
far_on s at k w m p h f =
    let g : Far (k ∷ chars (drop (at + w) s)) at (suc m) p = rw h.next at f in
    record { within = le_of_suc-le-suc g.within; there = g.there ∙ ap (λ (v : ℕ). after m (chars (drop (at + w) s)) (at + v)) (sym h.width) }

pub lands : (m : ℕ) (s : List ℕ) (at p : ℕ) → Far (chars (drop at s)) at m p → Lands s at m p
unfolding after
lands zero s at p f =
    record { rest = rw f.there; there = f.there; within = f.within; room = λ h. rw f.there h; inside = λ h. absurd (omega arith); gone = omega (arith, f.there) }
lands (suc m) s at p f =
    let (k, w, h) = first s at (omega (arith, f.within)) in
    lands_on s at k w m p h (lands m s (at + w) p (far_on s at k w m p h f))

-- as many characters as there are lead within the text
pub short : (s : List ℕ) (at : ℕ) → at ≤ length s → at + length (chars (drop at s)) ≤ length s
short s at h =
    let l = lands (length (chars (drop at s))) s at _ (record { within = omega arith; there = refl }) in
    omega (arith, l.room h, l.gone)

-- and there are no more of them than the text has bytes
pub fits : (s : List ℕ) (at : ℕ) → length (left s at) ≤ length s
fits s at = go (length (left s at)) refl
  where
    go : (n : ℕ) → length (left s at) ≡ n → length (left s at) ≤ length s
    go zero e = omega arith
    go (suc n) e =
        let l = lands (length (left s at)) s at _ (record { within = omega arith; there = refl }) in
        omega (arith, l.inside (omega arith), l.gone)

-- from the place that they lead to, the rest is read
pub far_left : (s : List ℕ) (at m p : ℕ) → Far (left s at) at m p → drop m (left s at) ≡ left s p
far_left s at m p f = (lands m s at p f).rest

-- what is closed stands in the text
pub closed-within : (s : List ℕ) (at p m : ℕ) → Far (left s at) at (m + 1) (p + 1) → (p < length s) × (m < length s)
closed-within s at p m f = let l = lands (m + 1) s at (p + 1) f in let r = l.inside (omega arith) in let g = l.gone in (omega arith, omega arith)
