-- WHICH CODES COME OUT of the LTK file's check, reader and writer, over records and over numbers: what holds of the codes that they name holds of every refusal.
use Rattle.std.specs.Prelude.{◌+◌, ℕ, false, ◌≡◌, ltb, Result, Ok, Err}
use mathlib.Core.List.{List, [], ◌∷◌}
use Rattle.std.proofs.Math.Path.{refl}
use Rattle.utf8.specs.Picks.{by_test}
use Rattle.record.specs.Codes.{OneOf, among, each, new_codes, none_of}
use Rattle.record.specs.Numbers.{code_number}
use Rattle.record.specs.Records.{refusal}
use Rattle.record.specs.declared.Code.{Code}
use Rattle.record.specs.declared.Code.TheVariants.{BadLength, BadMark, BadRecord, NoRoom, TooLong, UnknownVersion}
use Rattle.record.specs.declared.Refusal.{Refusal}
use Rattle.ltk.specs.Layout.{record_place}
use Rattle.ltk.specs.Ltk.{bad, bytes_for, file_check, judged, read_answer, room_for, write_answer}
use Rattle.ltk.specs.declared.Entry.{Entry}

-- the codes of the check, the reader and the writer
abbrev pub check_codes : List ℕ
check_codes = 17 ∷ 18 ∷ 19 ∷ 20 ∷ []

abbrev pub read_codes : List ℕ
read_codes = 14 ∷ check_codes

abbrev pub write_codes : List ℕ
write_codes = 12 ∷ 14 ∷ 20 ∷ []

-- those of none of the three
abbrev pub never_file : List ℕ
never_file = 1 ∷ 2 ∷ 3 ∷ 4 ∷ 5 ∷ 6 ∷ 7 ∷ 8 ∷ 9 ∷ 10 ∷ 11 ∷ 13 ∷ 15 ∷ 16 ∷ new_codes

module _ (Q : Code → Type 0) where
  abbrev SaysIn : Result ℕ Refusal → Type 0
  SaysIn (Ok n) = Unit {0}
  SaysIn (Err r) = Q r.code

  record Says (x : Result ℕ Refusal) : Type 0 where
    is : SaysIn x

  says_refused : (code : Code) (place : ℕ) → Q code → Says (Err (refusal code place))
  says_refused code place e = record { is = e }

  judged_says : Q BadRecord → (i before : ℕ) (es : List Entry) → Says (judged i before es)
  unfolding judged
  judged_says q20 i before [] = record { is = tt }
  judged_says q20 i before (e ∷ es) = by_test Says (bad before e) _ _ (λ t. says_refused _ _ q20) (λ t. judged_says q20 (i + 1) e.end es)

  file_says : Q BadMark → Q UnknownVersion → Q BadLength → Q BadRecord → (s : List ℕ) → Says (file_check s)
  unfolding file_check
  file_says q17 q18 q19 q20 s = search (by_test Says, says_refused, judged_says) depth 8

  room_says : Q NoRoom → (room : ℕ) (a : Result ℕ Refusal) → Says a → Says (room_for room a)
  room_says q14 room (Ok n) h = by_test Says (ltb room n) _ _ (λ t. says_refused _ _ q14) (λ t. h)
  room_says q14 room (Err r) h = h

  bytes_says : Q NoRoom → (room : ℕ) (a : Result ℕ Refusal) → Says a → Says (bytes_for room a)
  bytes_says q14 room (Ok n) h = by_test Says (ltb room (record_place n)) _ _ (λ t. says_refused _ _ q14) (λ t. record { is = tt })
  bytes_says q14 room (Err r) h = h

  write_says : Q TooLong → Q NoRoom → Q BadRecord → (es : List Entry) (room : ℕ) → Says (write_answer es room)
  unfolding write_answer
  write_says q12 q14 q20 es room = search (by_test Says, says_refused, bytes_says, judged_says)

-- THE THEOREMS. The check of a file
module _ (s : List ℕ) (r : Refusal) where
  pub check_codes_lem : file_check s ≡ Err r → OneOf check_codes r.code
  unfolding among
  check_codes_lem e = rw e at (file_says (OneOf check_codes) refl refl refl refl s).is

  pub check_never : file_check s ≡ Err r → among (code_number r.code) (12 ∷ 14 ∷ never_file) ≡ false
  unfolding among each
  check_never e = none_of check_codes (12 ∷ 14 ∷ never_file) refl r.code (check_codes_lem e)

  -- the reader
  pub read-codes : (room : ℕ) → read_answer s room ≡ Err r → OneOf read_codes r.code
  unfolding among read_answer
  read-codes room e = rw e at (room_says (OneOf read_codes) refl room (file_check s) (file_says (OneOf read_codes) refl refl refl refl s)).is

  pub read_never : (room : ℕ) → read_answer s room ≡ Err r → among (code_number r.code) (12 ∷ never_file) ≡ false
  unfolding among each
  read_never room e = none_of read_codes (12 ∷ never_file) refl r.code (read-codes room e)

-- the writer
module _ (es : List Entry) (room : ℕ) (r : Refusal) (e : write_answer es room ≡ Err r) where
  pub write-codes : OneOf write_codes r.code
  unfolding among
  write-codes = rw e at (write_says (OneOf write_codes) refl refl refl es room).is

  pub write_never : among (code_number r.code) (17 ∷ 18 ∷ 19 ∷ never_file) ≡ false
  unfolding among each
  write_never = none_of write_codes (17 ∷ 18 ∷ 19 ∷ never_file) refl r.code write-codes
