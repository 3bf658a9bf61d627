-- What a call answers after its gap, from what it answers with both depths told.
use Rattle.std.specs.Prelude.{ℕ, ◌≡◌, refl}
use Rattle.std.proofs.Common.{arith}
use Rattle.record.specs.declared.Refusal.{Refusal}
use Rattle.record.specs.declared.Token.{Token}
use Rattle.reading.specs.Answers.{told_token, told_what}
use Rattle.reading.specs.declared.What.{What}
use Rattle.reading.specs.declared.What.TheVariants.{End, Error, Got}

-- the token t is what w delivers, with the depths g and d
pub record Untold (g d : ℕ) (w : What) (t : Token) : Type 0 where
  pub token : Token
  pub got : w ≡ Got token
  pub with_depths : t ≡ told_token g d token

pub untold : (g d : ℕ) (w : What) (t : Token) → told_what g d w ≡ Got t → Untold g d w t
untold g d (Got u) t e = record { token = u; got = refl; with_depths = cc }
untold g d (Error r) t e = let z : ◌≡◌ {A = ℕ} 0 1 = cc in absurd (omega arith)
untold g d End t e = let z : ◌≡◌ {A = ℕ} 0 1 = cc in absurd (omega arith)

pub untold_error : (g d : ℕ) (w : What) (r : Refusal) → told_what g d w ≡ Error r → w ≡ Error r
untold_error g d (Got u) r e = let z : ◌≡◌ {A = ℕ} 0 1 = cc in absurd (omega arith)
untold_error g d (Error z) r e = e
untold_error g d End r e = e
