-- WHAT A CALL CAN ANSWER: the kinds with a payload, and what it is for an answer to hold. The walk of all readers is in proofs/Answered.antt.
use Rattle.std.specs.Prelude.{Bool, Ok, Err}
use mathlib.Core.List.{[], ◌∷◌}
use Rattle.std.proofs.Math.Dec.{eqb}
use Rattle.record.specs.Codes.{among}
use Rattle.record.specs.Numbers.{kind_number}
use Rattle.record.specs.declared.Code.{Code}
use Rattle.record.specs.declared.Kind.{Kind}
use Rattle.record.specs.declared.Kind.TheVariants.{CharLiteral, EqualsGreaterThanCode, EqualsGreaterThanQuestionCode, Escape, Id, Lifetime, MacroId, RegexLiteral, ShebangAttribute, StringLiteral, Use}
use Rattle.record.specs.declared.Token.{Token}
use Rattle.scan.specs.Shapes.{Skip}
use Rattle.reading.specs.declared.Call.{Call}
use Rattle.reading.specs.declared.What.{What}
use Rattle.reading.specs.declared.What.TheVariants.{End, Error, Got}

-- the kinds with a payload: code, an escape, words, literals, and an attribute
abbrev pub has_payload : Kind → Bool
has_payload kind =
    among (kind_number kind)
    (kind_number Use ∷ kind_number Escape ∷ kind_number Id ∷ kind_number MacroId ∷ kind_number Lifetime ∷ kind_number StringLiteral
    ∷ kind_number CharLiteral ∷ kind_number RegexLiteral ∷ kind_number EqualsGreaterThanCode ∷ kind_number EqualsGreaterThanQuestionCode ∷ kind_number ShebangAttribute ∷ [])

abbrev pub is_string : Kind → Bool
is_string kind = eqb (kind_number kind) (kind_number StringLiteral)

-- what holds of the answers: P of a token, Q of a refusal's code
abbrev pub LosesIn : (Code → Type 0) → Skip → Type 0
LosesIn Q (Ok (p, m)) = Unit {0}
LosesIn Q (Err (r, p, m)) = Q r.code

pub record Loses (Q : Code → Type 0) (x : Skip) : Type 0 where
  pub is : LosesIn Q x

abbrev pub SaysIn : (Token → Type 0) → (Code → Type 0) → What → Type 0
SaysIn P Q (Got t) = P t
SaysIn P Q (Error r) = Q r.code
SaysIn P Q End = Unit {0}

pub record Says (P : Token → Type 0) (Q : Code → Type 0) (x : Call) : Type 0 where
  pub is : SaysIn P Q x.what
