-- WHICH CODES COME OUT of string expansion, by what specs/Codes.antt says of every refusal.
use Prim.Native.Nat.{ℕ}
use Rattle.std.specs.Prelude.{false, ◌≡◌, Err}
use mathlib.Core.List.{List}
use Rattle.std.proofs.Math.Path.{refl}
use Rattle.record.specs.Codes.{OneOf, among, each, none_of}
use Rattle.record.specs.Numbers.{code_number}
use Rattle.record.specs.declared.Refusal.{Refusal}
use Rattle.escapes.specs.Answers.{applied}
use Rattle.escapes.specs.Codes.{expand_codes, never_expand, applied-answers}

-- THE THEOREMS
module _ (s : List ℕ) (idx0 : ℕ) (d : List ℕ) (place : ℕ) (r : Refusal) (e : (applied s idx0 d place).answer ≡ Err r) where
  pub expand-codes : OneOf expand_codes r.code
  unfolding among
  expand-codes = rw e at (applied-answers (OneOf expand_codes) refl refl refl refl refl refl refl s idx0 d place)

  pub expand_never : among (code_number r.code) never_expand ≡ false
  unfolding among each
  expand_never = none_of expand_codes never_expand refl r.code expand-codes
