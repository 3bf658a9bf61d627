-- Counts as the code makes them.
use Rattle.std.specs.Prelude.{ℕ, suc, ◌+◌, ◌≤◌, ◌≡◌, refl, Bool, true, false, cond, ◌&&◌, ◌||◌, List, ◌∷◌, count_by, nat_le, nat_lt}
use Rattle.std.proofs.Common.{sym, arith}
use Rattle.std.proofs.lemmas.List.Recursion.{is_count_by}
use Rattle.std.proofs.lemmas.Bool.Decides.{nat_tests}
use mir.Val.{bool_byte}
use Rattle.summed.specs.Summed.{characters}

pub one_byte : (b : Bool) → bool_byte b ≡ cond b 1 0
one_byte true = refl
one_byte false = refl

pub one-most : (b : Bool) → cond b 1 0 ≤ 1
one-most true = omega arith
one-most false = omega arith

-- a byte that starts a character is none of those that go on with one
abbrev pub starts : ℕ → Bool
starts b = nat_lt b 128 || nat_lt 191 b

none : (b n : ℕ) → cond (nat_le 128 b && nat_le b 191) n (suc n) ≡ cond (starts b) (1 + n) n
none b n = grind (arith, nat_tests)

turn : (b : ℕ) (s : List ℕ) → characters (b ∷ s) ≡ cond (starts b) (1 + characters s) (characters s)
unfolding characters
turn b s = none b (characters s)

pub characters_starts : (s : List ℕ) → count_by starts s ≡ characters s
unfolding characters
characters_starts s = sym (is_count_by characters starts refl turn s)
