-- The checks before any reading.
use Rattle.std.specs.Prelude.{ℕ, ◌+◌, cond, List, length, ltb, Result, Ok, Err}
use Rattle.utf8.specs.Utf8.{verdict}
use Rattle.record.specs.declared.Code.TheVariants.{NotUtf8, TooLong, ShiftTooLarge}
use Rattle.record.specs.Records.{refusal}
use Rattle.record.specs.declared.Refusal.{Refusal}

-- 01: "Text: at most 2,147,483,647 bytes."
abbrev pub text_limit : ℕ
text_limit = 2147483647

-- 01: "Shift plus text length: at most 2^64 - 1."
abbrev pub shift_limit : ℕ
shift_limit = 18446744073709551615

-- 01: "Places carry the shift, except for 12, 13 and LTK files"
abbrev pub check_utf8 : ℕ → Result Unit ℕ → Result Unit Refusal
check_utf8 shift (Ok tt) = Ok tt
check_utf8 shift (Err p) = Err (refusal NotUtf8 (p + shift))

-- 01: "Checks go: 12, 13, 11, then reading."
unfoldable pub checks : List ℕ → ℕ → Result Unit Refusal
checks s shift =
    cond (ltb text_limit (length s)) (Err (refusal TooLong 0))
    (cond (ltb shift_limit (shift + length s)) (Err (refusal ShiftTooLarge 0)) (check_utf8 shift (verdict s)))
