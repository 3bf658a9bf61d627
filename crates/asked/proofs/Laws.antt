-- Counts as the code makes them.
use Rattle.std.specs.Prelude.{ℕ, ◌+◌, ◌*◌, ◌≡◌, refl, Bool, true, false, cond, not, List, ◌∷◌, count_by, eqb, ltb, min}
use Rattle.std.proofs.Common.{sym, arith}
use Rattle.std.proofs.lemmas.List.Recursion.{is_count_by}
use Rattle.utf8.specs.Picks.{tests}
use Rattle.asked.specs.Expansions.{paint, written}
use Rattle.asked.specs.Texts.{most_tokens, room_for, size}

-- a byte that is not paint
abbrev pub is_written : ℕ → Bool
is_written b = not (eqb b paint)

turn : (b : ℕ) (s : List ℕ) → written (b ∷ s) ≡ cond (is_written b) (1 + written s) (written s)
unfolding written
turn b s = go (eqb b paint) (written s)
  where
    go : (t : Bool) (n : ℕ) → cond t 0 1 + n ≡ cond (not t) (1 + n) n
    go true n = omega arith
    go false n = refl

pub written_count : (s : List ℕ) → count_by is_written s ≡ written s
unfolding written
written_count s = sym (is_count_by written is_written refl turn s)

-- no more tokens than there is room for
pub size_least : (n m : ℕ) → m ≡ min n most_tokens → 5 * m ≡ size n
unfolding size
size_least n m e = go (ltb most_tokens n) refl
  where
    go : (t : Bool) → ltb most_tokens n ≡ t → 5 * m ≡ cond t room_for (5 * n)
    go true q = omega (tests, e)
    go false q = omega (tests, e)
