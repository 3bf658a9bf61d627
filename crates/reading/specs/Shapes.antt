-- The shape of an attempt at an attribute, over places and numbers of characters passed.
use Rattle.std.specs.Prelude.{ℕ, Result}

-- the place after an attribute that closes, with the characters passed; or where the attempt fails, with the characters passed till then
abbrev pub Attempt : Type 0
Attempt = Result (ℕ × ℕ) (ℕ × ℕ)
