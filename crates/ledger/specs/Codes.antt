-- The errors of the reading are the Rust's 1 to 10, 22 and 23 being its 1. That no call answers another code is in proofs/Codes.antt.
use Rattle.std.specs.Prelude.{Bool, true, ◌≡◌, leb}
use Rattle.record.specs.Numbers.{code_number}
use Rattle.record.specs.Rust.{rust_number}
use Rattle.record.specs.declared.Code.{Code}
use Rattle.record.specs.declared.Token.{Token}
use Rattle.reading.specs.declared.What.{What}
use Rattle.ledger.specs.Answered.{SaysIn}

-- 01: "1 to 10: the Rust `ErrorCode`s"; 02, E3: "the finer two mapped back to 1"
abbrev pub is_error : Code → Bool
is_error code = leb (rust_number (code_number code)) 10

abbrev pub ErrorIn : What → Type 0
ErrorIn w = SaysIn (λ (t : Token). Unit {0}) (λ (c : Code). is_error c ≡ true) w
