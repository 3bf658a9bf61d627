-- Reading on from character to character, where a character may cover some that follow it: those are passed unseen.
use Rattle.std.specs.Prelude.{◌+◌, suc, zero, ℕ, List, [], ◌∷◌, Ok, Err}
use Rattle.utf8.specs.Utf8.{width_of}
use Rattle.scan.specs.Shapes.{Skip}
use Rattle.scan.specs.declared.Turn.{Turn}
use Rattle.scan.specs.declared.Turn.TheVariants.{Fail, Pass, Stop}

module _ (see : ℕ → ℕ → List ℕ → ℕ → ℕ → Turn) (last : ℕ → ℕ → ℕ → Skip) where
  -- k characters to pass unseen; then what the first one does. A refusal keeps its own place p; the characters before it stay counted.
  unfoldable pub walk_from : ℕ → List ℕ → ℕ → ℕ → ℕ → Skip
  walk_from k [] b at n = last b at n
  walk_from zero (c ∷ cs) b at n =
      elim (see b c cs at (at + width_of c)) [
        | Stop ↦ Ok (at, n)
        | Fail r p m ↦ Err (r, p, n + 1 + m)
        | Pass p m b' ↦ walk_from m cs b' (at + width_of c) (n + 1)
      ]
  walk_from (suc k) (c ∷ cs) b at n = walk_from k cs b (at + width_of c) (n + 1)

  abbrev pub walk : ℕ → List ℕ → ℕ → Skip
  walk b cs at = walk_from 0 cs b at 0

-- what a cover passed, in a walk's state b
abbrev pub turn_of : ℕ → Skip → Turn
turn_of b (Ok (p, m)) = Pass p m b
turn_of b (Err (r, p, m)) = Fail r p m
