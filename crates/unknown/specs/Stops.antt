-- A gap ends where neither whitespace nor a comment stands.
use Rattle.std.specs.Prelude.{◌+◌, ◌-◌, ◌≤◌, suc, zero, ℕ, Bool, ◌&&◌, cond, false, not, true, List, [], ◌∷◌, ◌≡◌, refl, eqb, drop, Ok, Err}
use Rattle.std.proofs.Common.{arith}
use Rattle.utf8.specs.Chars.{'*, '/}
use Rattle.utf8.specs.Utf8.{width_of}
use Rattle.unicode_xid.specs.Whitespace.{is_whitespace}
use Rattle.scan.specs.IfNext.{if_next}
use Rattle.scan.specs.Seek.{block_comment, line_skip, skip_more}
use Rattle.scan.specs.Walk.{turn_of, walk_from}
use Rattle.scan.specs.Shapes.{Skip}
use Rattle.scan.specs.declared.Turn.{Turn}
use Rattle.scan.specs.declared.Turn.TheVariants.{Fail, Pass, Stop}
use Rattle.reading.specs.Gaps.{comment_turn, gap, gap_last, gap_turn}
use Rattle.unknown.specs.Unknowns.{without}

-- no gap goes on here
unfoldable pub over : List ℕ → Bool
over [] = true
over (c ∷ cs) = cond (eqb c '/) (without '/ cs && without '* cs) (not (is_whitespace c))

-- a skip is no stop
no_stop : (b : ℕ) (x : Skip) → turn_of b x ≡ Stop → ⊥
no_stop b (Ok (p, m)) e = let w : ◌≡◌ {A = ℕ} 0 1 = cc in omega arith
no_stop b (Err (r, p, m)) e = let w : ◌≡◌ {A = ℕ} 0 1 = cc in omega arith

comment_over : (o : ℕ) (cs : List ℕ) (at : ℕ) → comment_turn o cs at ≡ Stop → without '/ cs && without '* cs ≡ true
unfolding comment_turn if_next
comment_over o [] at e = refl
comment_over o (c ∷ cs) at e = go (eqb c 47) refl (eqb c 42) refl
  where
    go : (a : Bool) → eqb c 47 ≡ a → (b : Bool) → eqb c 42 ≡ b → without 47 (c ∷ cs) && without 42 (c ∷ cs) ≡ true
    go true p b q = absurd (no_stop 0 (line_skip (c ∷ cs) at) (rw p at e))
    go false p true q = absurd (no_stop 0 (skip_more 1 (block_comment o cs (at + width_of c))) (rw (p, q) at e))
    go false p false q = rw (p, q)

turn-over : (b c : ℕ) (cs : List ℕ) (at next : ℕ) → gap_turn b c cs at next ≡ Stop → over (c ∷ cs) ≡ true
unfolding gap_turn over
turn-over b c cs at next e = go (eqb c 47) refl (is_whitespace c) refl
  where
    go : (a : Bool) → eqb c 47 ≡ a → (w : Bool) → is_whitespace c ≡ w → cond (eqb c 47) (without 47 cs && without 42 cs) (not (is_whitespace c)) ≡ true
    go true p w q = rw p (comment_over at cs next (rw p at e))
    go false p true q = let z : Pass next 0 0 ≡ Stop = rw (p, q) at e in let n : ◌≡◌ {A = ℕ} 0 1 = cc in absurd (omega arith)
    go false p false q = rw (p, q)

-- where the walk comes to
abbrev OverIn : List ℕ → ℕ → Skip → Type 0
OverIn cs n (Ok (p, m)) = (n ≤ m) × (over (drop (m - n) cs) ≡ true)
OverIn cs n (Err (r, p, m)) = Unit {0}

later : (c : ℕ) (cs : List ℕ) (n : ℕ) (x : Skip) → OverIn cs (n + 1) x → OverIn (c ∷ cs) n x
later c cs n (Ok (p, m)) h = let e : m - n ≡ suc (m - (n + 1)) = omega (arith, h.0) in (omega (arith, h.0), rw e h.1)
later c cs n (Err (r, p, m)) h = tt

over-from : (k : ℕ) (cs : List ℕ) (b at n : ℕ) → OverIn cs n (walk_from gap_turn gap_last k cs b at n)
unfolding walk_from over
over-from k [] b at n = (omega arith, let e : n - n ≡ 0 = omega arith in rw e)
over-from zero (c ∷ cs) b at n = go (gap_turn b c cs at (at + width_of c)) refl (λ j b'. over-from j cs b' (at + width_of c) (n + 1))
  where
    go : (t : Turn) → gap_turn b c cs at (at + width_of c) ≡ t → ((j b' : ℕ) → OverIn cs (n + 1) (walk_from gap_turn gap_last j cs b' (at + width_of c) (n + 1)))
        → OverIn (c ∷ cs) n (walk_from gap_turn gap_last 0 (c ∷ cs) b at n)
    go Stop e f = rw (e, walk_from) (omega arith, let z : n - n ≡ 0 = omega arith in rw z (turn-over b c cs at (at + width_of c) e))
    go (Fail r p m) e f = rw (e, walk_from) tt
    go (Pass p m b') e f = rw (e, walk_from) (later c cs n (walk_from gap_turn gap_last m cs b' (at + width_of c) (n + 1)) (f m b'))
over-from (suc k) (c ∷ cs) b at n = later c cs n (walk_from gap_turn gap_last k cs b (at + width_of c) (n + 1)) (over-from k cs b (at + width_of c) (n + 1))

pub gap-over : (cs : List ℕ) (at p m : ℕ) → gap cs at ≡ Ok (p, m) → over (drop m cs) ≡ true
unfolding gap
gap-over cs at p m e = let h = over-from 0 cs 0 at 0 in let w : OverIn cs 0 (Ok (p, m)) = rw e at h in let z : m - 0 ≡ m = omega arith in rw z at w.1
