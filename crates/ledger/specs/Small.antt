-- A DEPTH IS NO GREATER THAN THE CHARACTERS THERE ARE: a comment is opened by characters of its own. So every depth that a call tells fits a number.
use Prim.Native.Nat.{◌+◌, ◌≤◌, suc, zero, ℕ}
use Rattle.std.proofs.Common.{arith}
use Rattle.std.specs.Prelude.{Bool, false, true, eqb, ltb, length}
use mathlib.Core.List.{List, [], ◌∷◌}
use Rattle.utf8.specs.Chars.{'*, '/}
use Rattle.utf8.specs.Picks.{by_test}
use Rattle.utf8.specs.Utf8.{width_of}
use Rattle.record.specs.declared.Reading.{Reading}
use Rattle.scan.specs.Depth.{comment_depth, cover_depth, deeper, deepest, depth_from, slash_depth}
use Rattle.scan.specs.Readers.{com_done, com_step, depth_of}
use Rattle.scan.specs.Steps.{com_depth}
use Rattle.scan.specs.declared.Com.{Com}
use Rattle.scan.specs.declared.Com.TheVariants.{Open}
use Rattle.scan.specs.declared.Turn.{Turn}
use Rattle.scan.specs.declared.Turn.TheVariants.{Fail, Pass, Stop}
use Rattle.code.specs.Code.{code_depth_of, code_turn}
use Rattle.reading.specs.Gaps.{gap_depth_of, gap_turn}

-- the greater of two is no more than what both are no more than
deeper-most : (a b z : ℕ) → a ≤ z → b ≤ z → deeper a b ≤ z
deeper-most a b z p q = by_test (λ (x : ℕ). x ≤ z) (ltb a b) b a (λ _. q) (λ _. p)

-- ---- a comment: each character opens at most one more
deepest-small : (z : ℕ) (st : Com) (cs : List ℕ) (m : ℕ) → m ≤ z → depth_of st + length cs ≤ z → deepest st cs m ≤ z
unfolding deepest
deepest-small z st [] m h l = h
deepest-small z st (c ∷ cs) m h l =
    let k = com_depth st c in
    go (com_done (com_step st c)) (deepest-small z (com_step st c) cs (deeper m (depth_of (com_step st c))) (deeper-most m (depth_of (com_step st c)) z h (omega arith)) (omega arith))
  where
    go : (b : Bool) → deepest (com_step st c) cs (deeper m (depth_of (com_step st c))) ≤ z
        → elim b [ true ↦ m | false ↦ deepest (com_step st c) cs (deeper m (depth_of (com_step st c))) ] ≤ z
    go true f = h
    go false f = f

-- the star before it is a character too, and so is the slash
comment_small : (cs : List ℕ) → comment_depth cs ≤ suc (length cs)
comment_small cs = deepest-small (suc (length cs)) (Open 1) cs 1 (omega arith) (omega arith)

slash_small : (cs : List ℕ) → slash_depth cs ≤ length cs
unfolding slash_depth
slash_small [] = omega arith
slash_small (c ∷ cs) = by_test (λ (x : ℕ). x ≤ suc (length cs)) (eqb c '*) (comment_depth cs) 0 (λ _. comment_small cs) (λ _. omega arith)

cover_small : (c : ℕ) (cs : List ℕ) → cover_depth c cs ≤ length cs
cover_small c cs = by_test (λ (x : ℕ). x ≤ length cs) (eqb c '/) (slash_depth cs) 0 (λ _. slash_small cs) (λ _. omega arith)

-- ---- a walk: it sees comments of its own characters
module _ (see : ℕ → ℕ → List ℕ → ℕ → ℕ → Turn) (m : ℕ) where
  walk-small : (k : ℕ) (cs : List ℕ) (b at d : ℕ) → d ≤ m → length cs ≤ m → depth_from see k cs b at d ≤ m
  unfolding depth_from
  walk-small zero [] b at d h l = h
  walk-small (suc k) [] b at d h l = h
  walk-small (suc k) (c ∷ cs) b at d h l = walk-small k cs b (at + width_of c) d h (omega arith)
  walk-small zero (c ∷ cs) b at d h l = go (see b c cs at (at + width_of c)) (λ j b' d' g. walk-small j cs b' (at + width_of c) d' g (omega arith))
    where
      go : (t : Turn) → ((j b' d' : ℕ) → d' ≤ m → depth_from see j cs b' (at + width_of c) d' ≤ m)
          → elim t [ Stop ↦ d | Fail r p j ↦ d | Pass p j b' ↦ depth_from see j cs b' (at + width_of c) (deeper d (cover_depth c cs)) ] ≤ m
      go Stop f = h
      go (Fail r p j) f = h
      go (Pass p j b') f = let w = cover_small c cs in f j b' (deeper d (cover_depth c cs)) (deeper-most d (cover_depth c cs) m h (omega arith))

-- ---- THE LAWS, of a gap and of code
pub gap-small : (cs : List ℕ) (at : ℕ) → gap_depth_of cs at ≤ length cs
gap-small cs at = walk-small gap_turn (length cs) 0 cs 0 at 0 (omega arith) (omega arith)

pub code-small : (rd : Reading) (cs : List ℕ) (at : ℕ) → code_depth_of rd cs at ≤ length cs
code-small rd cs at = walk-small (code_turn rd) (length cs) 0 cs 0 at 0 (omega arith) (omega arith)
