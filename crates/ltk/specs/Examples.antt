-- Small files, by computation: each refusal with its place, in 01's order, and the file of two records.
use Rattle.std.specs.Prelude.{ℕ, ◌≡◌, refl, List, [], ◌∷◌, ◌++◌, map, take, Result, Ok, Err}
use Rattle.utf8.specs.Chars.{'L, 'T, 'K, 'a}
use Rattle.record.specs.declared.Code.{Code}
use Rattle.record.specs.declared.Code.TheVariants.{NoRoom, BadMark, UnknownVersion, BadLength, BadRecord}
use Rattle.record.specs.Records.{refusal}
use Rattle.ltk.specs.declared.Entry.{Entry}
use Rattle.ltk.specs.Layout.{little, number_at}
use Rattle.ltk.specs.Ltk.{entry, record_bytes, header_bytes, flat, records_bytes, image, judged, listed, file_check, read_answer, write_answer}
use Rattle.record.specs.declared.Refusal.{Refusal}

abbrev no : Code → ℕ → Result ℕ Refusal
no code place = Err (refusal code place)

-- `Enum` 0..4 and `Use` 5..300
abbrev two : List Entry
two = entry 0 0 4 ∷ entry 13 5 300 ∷ []

abbrev two_bytes : List ℕ
two_bytes =
    'L ∷ 'T ∷ 'K ∷ 1 ∷ 0 ∷ 2 ∷ 0 ∷ 0 ∷ 0 ∷
    0 ∷ 0 ∷ 0 ∷ 0 ∷ 0 ∷ 4 ∷ 0 ∷ 0 ∷ 0 ∷
    13 ∷ 5 ∷ 0 ∷ 0 ∷ 0 ∷ 44 ∷ 1 ∷ 0 ∷ 0 ∷ []

-- a file of one record
abbrev one : ℕ → ℕ → ℕ → List ℕ
one kind start end = header_bytes 1 ++ record_bytes (entry kind start end)

pub written : image two ≡ two_bytes
unfolding image header_bytes flat record_bytes little
written = refl

pub marked :
    map file_check
    ([] ∷ ('L ∷ 'T ∷ []) ∷ ('L ∷ 'T ∷ 'a ∷ []) ∷ ('L ∷ 'T ∷ 'K ∷ []) ∷ take 8 two_bytes ∷ ('L ∷ 'T ∷ 'K ∷ 2 ∷ 0 ∷ 0 ∷ 0 ∷ 0 ∷ 0 ∷ []) ∷
    header_bytes 0 ∷ (header_bytes 3 ++ records_bytes two) ∷ (header_bytes 1 ++ records_bytes two) ∷ two_bytes ∷ one 53 0 1 ∷ one 54 0 1 ∷
    one 0 1 1 ∷ one 0 0 2147483647 ∷ one 0 0 2147483648 ∷ (header_bytes 2 ++ (record_bytes (entry 0 0 4) ++ record_bytes (entry 0 3 5))) ∷ [])
    ≡
    no BadMark 0 ∷ no BadMark 0 ∷ no BadMark 0 ∷ no BadLength 9 ∷ no BadLength 9 ∷ no UnknownVersion 3 ∷
    Ok 0 ∷ no BadLength 9 ∷ no BadLength 9 ∷ Ok 2 ∷ Ok 1 ∷ no BadRecord 9 ∷
    no BadRecord 9 ∷ Ok 1 ∷ no BadRecord 9 ∷ no BadRecord 18 ∷ []
unfolding file_check judged listed number_at header_bytes flat record_bytes little
marked = refl

pub roomy : read_answer two_bytes 2 ∷ read_answer two_bytes 1 ∷ write_answer two 27 ∷ write_answer two 26 ∷ [] ≡ Ok 2 ∷ no NoRoom 0 ∷ Ok 27 ∷ no NoRoom 0 ∷ []
unfolding read_answer write_answer file_check judged listed number_at
roomy = refl
