-- Places that stepping over characters comes to, and that the closing quote of a regex stands at one.
use Rattle.std.specs.Prelude.{ℕ, ◌+◌, ◌-◌, ◌<◌, Bool, false, drop, Ok}
use native.Mathlib.Omega.{arith}
use Rattle.std.proofs.Math.Bool.{true}
use mathlib.Core.List.{List, [], ◌∷◌}
use Rattle.std.proofs.Math.Path.{◌≡◌, refl, ap}
use Rattle.std.proofs.Math.Dec.{eqb}
use Rattle.std.proofs.Common.{eqb-true}
use Rattle.utf8.specs.Picks.{tests}
use Rattle.utf8.specs.Utf8.{width_of}
use Rattle.scan.specs.Far.{Far, far_none, one_far, one_more, then}
use Rattle.scan.specs.Readers.{reg_done, reg_step, regex_end}
use Rattle.scan.specs.Shapes.{same_ok}
use Rattle.scan.specs.Until.{until}

-- some of the characters cs lead from the place at to the place p
pub record Reached (cs : List ℕ) (at p : ℕ) : Type 0 where
  pub count : ℕ
  pub far : Far cs at count p

-- P holds of every place that the characters cs lead to from the place at
pub record Ahead (P : ℕ → Type 0) (cs : List ℕ) (at : ℕ) : Type 0 where
  pub all : (m p : ℕ) → Far cs at m p → P p

module _ (P : ℕ → Type 0) (cs : List ℕ) (at : ℕ) where
  pub ahead_here : Ahead P cs at → P at
  ahead_here a = a.all 0 at (far_none cs at)

  pub ahead_on : (m p : ℕ) → Ahead P cs at → Far cs at m p → Ahead P (drop m cs) p
  ahead_on m p a f = record { all = λ j q g. a.all (m + j) q (then m cs at p j q f g) }

  pub ahead_one : (c : ℕ) → Ahead P (c ∷ cs) at → Ahead P cs (at + width_of c)
  ahead_one c a = record { all = λ j q g. a.all (1 + j) q (one_more c cs at j q g) }

pub ahead_reached : (cs : List ℕ) (at : ℕ) → Ahead (Reached cs at) cs at
ahead_reached cs at = record { all = λ m p f. record { count = m; far = f } }

-- the character that stands next, one byte wide, leads to the next byte
pub next_far : (k c : ℕ) (cs : List ℕ) (at : ℕ) → width_of k ≡ 1 → eqb c k ≡ true → Far (c ∷ cs) at 1 (at + 1)
next_far k c cs at w e =
    let i : width_of c ≡ width_of k = ap width_of (eqb-true c k e) in
    let v : at + width_of c ≡ at + 1 = omega arith in
    rw v at (one_far c cs at)

-- ---- a regex is closed by a quote and h hashes, the last of them at q: the quote stands h bytes before
reg_shut : (h st : ℕ) → reg_done h st ≡ true → st ≡ h + 1
reg_shut h st e = go (eqb st 0) refl
  where
    go : (t : Bool) → eqb st 0 ≡ t → st ≡ h + 1
    go true q = let z : false ≡ true = rw q at e in let w : ◌≡◌ {A = ℕ} 0 1 = cc in absurd (omega arith)
    go false q = let z : eqb (st - 1) h ≡ true = rw q at e in omega tests

module _ (P : ℕ → Type 0) where
  -- in the state st the last quote stands st bytes before the cursor
  quote_step : (st c at : ℕ) → P at → (0 < st → P (at - st)) → 0 < reg_step st c → P (at + 1 - reg_step st c) × (width_of c ≡ 1)
  unfolding width_of
  quote_step st c at here k l = go (eqb st 0) (eqb c 35) (eqb c 34) refl refl refl
    where
      wide : (j : ℕ) → eqb c j ≡ true → width_of j ≡ 1 → width_of c ≡ 1
      wide j e w = let i : width_of c ≡ width_of j = ap width_of (eqb-true c j e) in omega arith

      go : (a b d : Bool) → eqb st 0 ≡ a → eqb c 35 ≡ b → eqb c 34 ≡ d → P (at + 1 - reg_step st c) × (width_of c ≡ 1)
      go true b true x y z = let e : at ≡ at + 1 - 1 = omega arith in rw (x, z) (rw e at here, wide 34 z refl)
      go true b false x y z = let w : ◌<◌ 0 0 = rw (x, z) at l in absurd (omega arith)
      go false true d x y z = let e : at - st ≡ at + 1 - (st + 1) = omega arith in rw (x, y) (rw e at (k (omega tests)), wide 35 y refl)
      go false false true x y z = let e : at ≡ at + 1 - 1 = omega arith in rw (x, y, z) (rw e at here, wide 34 z refl)
      go false false false x y z = let w : ◌<◌ 0 0 = rw (x, y, z) at l in absurd (omega arith)

  quote_from : (h q m : ℕ) (cs : List ℕ) (st at n : ℕ) → Ahead P cs at → (0 < st → P (at - st)) → until reg_step (reg_done h) st cs at n ≡ Ok (q, m) → P (q - h)
  unfolding until
  quote_from h q m [] st at n a k e = let z : ◌≡◌ {A = ℕ} 0 1 = cc in absurd (omega arith)
  quote_from h q m (c ∷ cs) st at n a k e = go (reg_done h (reg_step st c)) refl (quote_from h q m cs (reg_step st c) (at + width_of c) (n + 1) (ahead_one P cs at c a))
    where
      mark : 0 < reg_step st c → P (at + 1 - reg_step st c) × (width_of c ≡ 1)
      mark = quote_step st c at (ahead_here P (c ∷ cs) at a) k

      go : (d : Bool) → reg_done h (reg_step st c) ≡ d
          → ((0 < reg_step st c → P (at + width_of c - reg_step st c)) → until reg_step (reg_done h) (reg_step st c) cs (at + width_of c) (n + 1) ≡ Ok (q, m) → P (q - h))
          → P (q - h)
      go true d f =
          let u : Ok (at, n) ≡ Ok (q, m) = rw (d, until) at e in
          let y : at ≡ q = (same_ok _ _ _ _ u).0 in
          let v : reg_step st c ≡ h + 1 = reg_shut h (reg_step st c) d in
          let z : at + 1 - reg_step st c ≡ q - h = omega arith in
          rw z at (mark (omega arith)).0
      go false d f =
          f (λ l. let g = mark l in let z : at + 1 - reg_step st c ≡ at + width_of c - reg_step st c = omega (arith, g.1) in rw z at g.0)
          (rw (d, until) at e)

  pub regex_quote : (h : ℕ) (cs : List ℕ) (at q m : ℕ) → Ahead P cs at → regex_end h cs at ≡ Ok (q, m) → P (q - h)
  regex_quote h cs at q m a e = quote_from h q m cs 0 at 0 a (λ l. absurd (omega arith)) e
