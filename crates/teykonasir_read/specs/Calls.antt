-- What the function for other languages that tells depths, in either reading, answers and leaves behind, as numbers.
use Rattle.std.specs.Prelude.{ℕ, ◌/◌, List, [], ◌∷◌, length, Option, Some, None}
use Rattle.record.specs.Numbers.{code_number}
use Rattle.record.specs.Readings.{reading_of}
use Rattle.record.specs.Records.{over, told_number}
use Rattle.record.specs.declared.Code.TheVariants.{UnknownReading}
use Rattle.reading.specs.Answers.{start_in}
use Rattle.run.specs.Checked.{ran_of, whole_run}
use Rattle.run.specs.Numbers.{groups, size_of}
use Rattle.run.specs.declared.Group.TheVariants.{Nine}
use Rattle.run.specs.declared.Ran.{Ran}
use Rattle.numbers.specs.Leaves.{Left, tell}
use Rattle.numbers.specs.Values.{how_code, how_place}
use Rattle.record.specs.declared.Reading.{Reading}

-- "answer of six: code, place, records, advances, depth of the last gap, characters of the last gap (2^64 - 1 before E10)"
abbrev pub six : ℕ → ℕ → ℕ → ℕ → ℕ → List ℕ
six code place stored advances depth = code ∷ place ∷ stored ∷ advances ∷ depth ∷ told_number None ∷ []

abbrev pub answered : Ran → List ℕ
answered r = six (how_code r.how) (how_place r.how) r.stored r.advances r.last_depth

-- "records of nine numbers": room is the number of whole groups of nine
abbrev pub room_in : List ℕ → ℕ
room_in records = length records / size_of Nine

-- 02, E5: "24 UnknownReading for any other choice, before 12, count 0": neither the text nor the shift is looked at, and nothing is written but the answer
abbrev pub read_by : Option Reading → List ℕ → ℕ → ℕ → List ℕ → List ℕ → Left
read_by (Some rd) s shift limit records answer =
    tell 6 (how_code (ran_of s shift limit (room_in records) (start_in rd)).how) (answered (ran_of s shift limit (room_in records) (start_in rd)))
    (over (groups Nine (whole_run s shift limit (room_in records) (start_in rd)).tokens) records) records answer
read_by None s shift limit records answer = tell 6 (code_number UnknownReading) (six (code_number UnknownReading) 0 0 0 0) records records answer

-- "`reading` (0 old, 1 kept, else 24)"
unfoldable pub read_call : List ℕ → ℕ → ℕ → ℕ → List ℕ → List ℕ → Left
read_call s reading shift limit records answer = read_by (reading_of reading) s shift limit records answer
