-- The errors of the reading (specs/Codes.antt): no call answers another code.
use Rattle.std.specs.Prelude.{ℕ, true, List, ◌≡◌, refl}
use Rattle.record.specs.declared.Code.{Code}
use Rattle.record.specs.declared.Reading.{Reading}
use Rattle.record.specs.declared.Token.{Token}
use Rattle.reading.specs.Next.{next}
use Rattle.ledger.specs.Answered.{Says}
use Rattle.ledger.proofs.Answered.{next_says}
use Rattle.ledger.specs.Codes.{is_error}

-- of every call
pub next_errs : (rd : Reading) (cs : List ℕ) (at : ℕ) → Says (λ (t : Token). Unit {0}) (λ (c : Code). is_error c ≡ true) (next rd cs at)
next_errs rd cs at = next_says rd (λ t. Unit {0}) (λ c. is_error c ≡ true) (λ kind o p h. tt) (λ kind o p from to h s. tt) refl refl refl refl refl refl refl refl (λ o p from to. tt) (λ g d t h. h) cs at
