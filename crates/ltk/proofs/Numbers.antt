-- Numbers of one, two and four bytes.
use Prim.Native.Nat.{ℕ, ◌+◌, ◌*◌}
use mathlib.Core.Path.{◌≡◌}
use mathlib.Core.List.{List}
use native.Mathlib.Omega.{arith}
use lib.ListN.{get_or}
use Rattle.ltk.specs.Layout.{number_at}

pub number_4 : (s : List ℕ) (p : ℕ) → number_at 4 s p ≡ number_at 2 s p + 65536 * number_at 2 s (p + 2)
unfolding number_at
number_4 s p =
    let e : p + 1 + 1 ≡ p + 2 = omega arith in
    rw e (omega arith)

pub number_1 : (s : List ℕ) (p : ℕ) → number_at 1 s p ≡ get_or s p 0
unfolding number_at
number_1 s p = omega arith

pub number_2 : (s : List ℕ) (p : ℕ) → number_at 2 s p ≡ get_or s p 0 + 256 * get_or s (p + 1) 0
unfolding number_at
number_2 s p = omega arith
