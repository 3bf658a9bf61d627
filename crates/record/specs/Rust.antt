-- THE MAP to the Rust's codes. 02, E3: "Demand 2 reads with the finer two mapped back to 1."
use Rattle.std.specs.Prelude.{ℕ, Bool, ◌||◌, cond, false, true, ◌≡◌, refl, eqb}
use Rattle.record.specs.Numbers.{code_number}
use Rattle.record.specs.declared.Code.{Code}
use Rattle.record.specs.declared.Code.TheVariants.{HalfSymbol, StrayCharacter, UnrecognizedToken}

abbrev pub is_finer : ℕ → Bool
is_finer n = eqb n (code_number HalfSymbol) || eqb n (code_number StrayCharacter)

-- of codes, and of their numbers
abbrev pub rust_code : Code → Code
rust_code c = cond (is_finer (code_number c)) UnrecognizedToken c

abbrev pub rust_number : ℕ → ℕ
rust_number n = cond (is_finer n) (code_number UnrecognizedToken) n

-- the two are one map
pub rust_number_lem : (c : Code) → code_number (rust_code c) ≡ rust_number (code_number c)
rust_number_lem c = go (is_finer (code_number c))
  where
    go : (b : Bool) → code_number (cond b UnrecognizedToken c) ≡ cond b (code_number UnrecognizedToken) (code_number c)
    go true = refl
    go false = refl
