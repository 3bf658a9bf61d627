-- A refusal's place lies from the start of what is refused up to the cursor.
use Prim.Native.Nat.{ℕ, zero, suc, ◌+◌, ◌-◌, ◌≤◌, ◌<◌}
use Rattle.std.proofs.Common.{arith, Ok, Err}
use Rattle.std.specs.Prelude.{Bool, true, false, cond, ◌≡◌, eqb, ltb, length}
use mathlib.Core.List.{List, [], ◌∷◌}
use Rattle.std.proofs.Math.Path.{refl}
use Rattle.utf8.specs.Chars.{'dquote}
use Rattle.utf8.specs.Picks.{by_test, tests}
use Rattle.utf8.specs.Utf8.{width_of}
use Rattle.record.specs.Records.{refusal}
use Rattle.record.specs.declared.Code.{Code}
use Rattle.record.specs.declared.Code.TheVariants.{UnterminatedBlockComment, UnterminatedStringLiteral}
use Rattle.scan.specs.Far.{Far, after}
use Rattle.scan.specs.IfNext.{if_next}
use Rattle.scan.specs.Readers.{comment_end, reg_done, reg_step, regex_end, string_end}
use Rattle.scan.specs.Passes.{Sound, string_sound, block_sound, regex_sound, upto_sound}
use Rattle.scan.specs.Seek.{seek, skip_more, string_skip, block_comment, regex_skip, through, up_to}
use Rattle.scan.specs.Steps.{reg_less}
use Rattle.scan.specs.Until.{until}
use Rattle.scan.specs.Walk.{turn_of, walk, walk_from}
use Rattle.scan.specs.Shapes.{Found, same_ok}
use Rattle.scan.specs.Shapes.{Skip}
use Rattle.scan.specs.declared.Sought.{Sought}
use Rattle.scan.specs.declared.Turn.{Turn}
use Rattle.scan.specs.declared.Turn.TheVariants.{Fail, Pass, Stop}

-- a character is at least one byte wide, so m characters lead at least m places on
pub wide : (c : ℕ) → 1 ≤ width_of c
unfolding width_of
wide c =
    by_test (λ (w : ℕ). 1 ≤ w) (ltb c 0x80) 1 _ (λ h. omega arith)
    (λ h. by_test (λ (w : ℕ). 1 ≤ w) (ltb c 0x800) 2 _ (λ g. omega arith) (λ g. by_test (λ (w : ℕ). 1 ≤ w) (ltb c 0x10000) 3 4 (λ f. omega arith) (λ f. omega arith)))

after_on : (m : ℕ) (cs : List ℕ) (at : ℕ) → m ≤ length cs → at + m ≤ after m cs at
unfolding after
after_on zero cs at h = omega arith
after_on (suc m) [] at h = absurd (omega arith)
after_on (suc m) (c ∷ cs) at h = let i = after_on m cs (at + width_of c) (omega arith) in let w = wide c in omega arith

pub far_on : (cs : List ℕ) (at m p : ℕ) → Far cs at m p → at + m ≤ p
far_on cs at m p f = let h = after_on m cs at f.within in omega (arith, f.there)

-- of a reader's answer, what starts at o
abbrev NearIn : ℕ → Skip → Type 0
NearIn o (Ok (p, m)) = o ≤ p
NearIn o (Err (r, p, m)) = (o ≤ r.place) × (r.place ≤ p)

pub record Near (o : ℕ) (x : Skip) : Type 0 where
  pub is : NearIn o x

module _ (o : ℕ) where
  pub near_test : (t : Bool) (x y : Skip) → Near o x → Near o y → Near o (cond t x y)
  near_test true x y p q = p
  near_test false x y p q = q

  pub near_next : (k : ℕ) (l : List ℕ) (x y : Skip) → Near o x → Near o y → Near o (if_next k l x y)
  unfolding if_next
  near_next k [] x y p q = q
  near_next k (c ∷ l) x y p q = near_test (eqb c k) x y p q

  pub near_past : (p m : ℕ) → o ≤ p → Near o (Ok (p, m))
  near_past p m h = record { is = h }

  pub near_lost : (code : Code) (q p m : ℕ) → o ≤ q → q ≤ p → Near o (Err (refusal code q, p, m))
  near_lost code q p m g h = record { is = (g, h) }

  pub near_more : (n : ℕ) (x : Skip) → Near o x → Near o (skip_more n x)
  near_more n (Ok (p, m)) h = record { is = h.is }
  near_more n (Err (r, p, m)) h = record { is = h.is }

  -- what is closed or refused as a whole, from a place at or after o
  pub near_through : (code : Code) (cs : List ℕ) (at : ℕ) (f : Found) → o ≤ at → Sound cs at (through code o f) → Near o (through code o f)
  near_through code cs at (Ok (p, m)) h s = record { is = (let g = far_on cs at (m + 1) (p + 1) s.is in omega arith) }
  near_through code cs at (Err (p, m)) h s = record { is = (omega arith, (let g = far_on cs at m p s.is in omega arith)) }

  module _ (cs : List ℕ) (at : ℕ) (h : o ≤ at) where
    pub string_near : Near o (string_skip o cs at)
    string_near = near_through UnterminatedStringLiteral cs at (string_end 'dquote cs at) h (string_sound o cs at)

    pub block_near : Near o (block_comment o cs at)
    block_near = near_through UnterminatedBlockComment cs at (comment_end cs at) h (block_sound o cs at)

    pub regex_near : (n : ℕ) → Near o (regex_skip o n cs at)
    regex_near n = near_through UnterminatedStringLiteral cs at (regex_end n cs at) h (regex_sound o n cs at)

    pub upto_near : (k : Sought) → Near o (up_to (seek k cs at))
    upto_near k = go (seek k cs at) (upto_sound k cs at)
      where
        go : (f : Found) → Sound cs at (up_to f) → Near o (up_to f)
        go (Ok (p, m)) s = record { is = (let g = far_on cs at m p s.is in omega arith) }
        go (Err (p, m)) s = record { is = (let g = far_on cs at m p s.is in omega arith) }

pub near_lower : (o q : ℕ) (x : Skip) → o ≤ q → Near q x → Near o x
near_lower o q (Ok (p, m)) h n = let g = n.is in record { is = omega arith }
near_lower o q (Err (r, p, m)) h n = let g = n.is in record { is = (omega arith, g.1) }

-- of a turn, what starts at o
abbrev NearTurnIn : ℕ → Turn → Type 0
NearTurnIn o Stop = Unit {0}
NearTurnIn o (Fail r p m) = (o ≤ r.place) × (r.place ≤ p)
NearTurnIn o (Pass p m b) = Unit {0}

pub record NearTurn (o : ℕ) (x : Turn) : Type 0 where
  pub is : NearTurnIn o x

module _ (o : ℕ) where
  pub turn-test : (t : Bool) (x y : Turn) → NearTurn o x → NearTurn o y → NearTurn o (cond t x y)
  turn-test true x y p q = p
  turn-test false x y p q = q

  pub turn-stop : NearTurn o Stop
  turn-stop = record { is = tt }

  pub turn_pass : (p m b : ℕ) → NearTurn o (Pass p m b)
  turn_pass p m b = record { is = tt }

  pub turn_near : (b : ℕ) (x : Skip) → Near o x → NearTurn o (turn_of b x)
  turn_near b (Ok (p, m)) h = record { is = tt }
  turn_near b (Err (r, p, m)) h = record { is = h.is }

pub ruleset near_turns = (turn-test, turn-stop, turn_pass, turn_near)

-- a walk whose turns refuse from their own character on
module _ (see : ℕ → ℕ → List ℕ → ℕ → ℕ → Turn) (last : ℕ → ℕ → ℕ → Skip) (o : ℕ)
    (turns : (b c : ℕ) (cs : List ℕ) (at : ℕ) → NearTurn at (see b c cs at (at + width_of c)))
    (ends : (b at n : ℕ) → o ≤ at → Near o (last b at n)) where
  near_from : (k : ℕ) (cs : List ℕ) (b at n : ℕ) → o ≤ at → Near o (walk_from see last k cs b at n)
  unfolding walk_from
  near_from k [] b at n h = ends b at n h
  near_from zero (c ∷ cs) b at n h = go (see b c cs at (at + width_of c)) refl (λ j b'. near_from j cs b' (at + width_of c) (n + 1) (omega arith))
    where
      go : (t : Turn) → see b c cs at (at + width_of c) ≡ t → ((j b' : ℕ) → Near o (walk_from see last j cs b' (at + width_of c) (n + 1)))
          → Near o (walk_from see last 0 (c ∷ cs) b at n)
      go Stop e f = rw (e, walk_from) (record { is = h })
      go (Fail r p m) e f =
          let g : (at ≤ r.place) × (r.place ≤ p) = (rw e at (turns b c cs at)).is in
          rw (e, walk_from) (record { is = (omega (arith, g.0), g.1) })
      go (Pass p m b') e f = rw (e, walk_from) (f m b')
  near_from (suc k) (c ∷ cs) b at n h = near_from k cs b (at + width_of c) (n + 1) (omega arith)

  pub walk_near : (b : ℕ) (cs : List ℕ) (at : ℕ) → o ≤ at → Near o (walk see last b cs at)
  walk_near b cs at h = near_from 0 cs b at 0 h

-- a regex that is closed with h hashes has passed at least so many characters
reg_closed : (h st : ℕ) → reg_done h st ≡ true → h + 1 ≤ st
reg_closed h st e = go (eqb st 0) refl
  where
    go : (t : Bool) → eqb st 0 ≡ t → h + 1 ≤ st
    go true q = let z : false ≡ true = rw q at e in let w : ◌≡◌ {A = ℕ} 0 1 = cc in absurd (omega arith)
    go false q = let z : eqb (st - 1) h ≡ true = rw q at e in omega tests

regex_from : (h q m : ℕ) (cs : List ℕ) (st at n : ℕ) → st ≤ n → until reg_step (reg_done h) st cs at n ≡ Ok (q, m) → h ≤ m
unfolding until
regex_from h q m [] st at n l e = let z : ◌≡◌ {A = ℕ} 0 1 = cc in absurd (omega arith)
regex_from h q m (c ∷ cs) st at n l e = go (reg_done h (reg_step st c)) refl (regex_from h q m cs (reg_step st c) (at + width_of c) (n + 1))
  where
    go : (d : Bool) → reg_done h (reg_step st c) ≡ d → (reg_step st c ≤ n + 1 → until reg_step (reg_done h) (reg_step st c) cs (at + width_of c) (n + 1) ≡ Ok (q, m) → h ≤ m) → h ≤ m
    go true d f =
        let u : ◌≡◌ {A = Found} (Ok (at, n)) (Ok (q, m)) = rw (d, until) at e in
        let y : n ≡ m = (same_ok _ _ _ _ u).1 in
        omega (arith, reg_closed h (reg_step st c) d, reg_less st c)
    go false d f = f (omega (arith, reg_less st c)) (rw (d, until) at e)

pub regex_long : (h : ℕ) (cs : List ℕ) (at q m : ℕ) → regex_end h cs at ≡ Ok (q, m) → h ≤ m
regex_long h cs at q m e = regex_from h q m cs 0 at 0 (omega arith) e
