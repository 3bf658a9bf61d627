-- A number's decimal digits.
use Rattle.std.specs.Prelude.{ℕ, zero, suc, ◌+◌, ◌-◌, ◌*◌, ◌/◌, ◌%◌, cond, List, [], ◌∷◌, ltb}

-- how many digits a number of at most k digits has: as many as it takes to bring it below ten
unfoldable pub width_in : ℕ → ℕ → ℕ
width_in zero n = 0
width_in (suc k) n = cond (ltb n 10) 1 (suc (width_in k (n / 10)))

-- every number below 2^64 has at most twenty
abbrev pub most_digits : ℕ
most_digits = 20

unfoldable pub width : ℕ → ℕ
width n = width_in most_digits n

-- the last w digits of n, as the bytes from '0' (48) to '9', and then the bytes l
unfoldable pub digits_then : ℕ → ℕ → List ℕ → List ℕ
digits_then zero n l = l
digits_then (suc w) n l = digits_then w (n / 10) ((48 + n % 10) ∷ l)

unfoldable pub digits : ℕ → List ℕ
digits n = digits_then (width n) n []

-- the number that digits say, after v
unfoldable pub value_from : ℕ → List ℕ → ℕ
value_from v [] = v
value_from v (d ∷ l) = value_from (v * 10 + (d - 48)) l
