-- A SHEET TAKES A TEXT. 02, E2: "Refusals: 12, 11, then 21 SheetFull, exactly for a 1,025th text, failed ones counted, then 20 for a sheet with a total
-- above 2^50 for each text taken .. none is tallied or changes the sheet."
use Rattle.std.specs.Prelude.{◌*◌, ◌+◌, ℕ, Bool, ◌&&◌, cond, true, List, [], ◌∷◌, leb, ltb, get_or, length, set, take, Result, Ok, Err}
use Rattle.record.specs.Checks.{checks}
use Rattle.record.specs.Records.{refusal}
use Rattle.record.specs.declared.Code.TheVariants.{BadRecord, NoRoom, SheetFull}
use Rattle.scan.specs.Depth.{deeper}
use Rattle.reading.specs.declared.Outcome.{Outcome}
use Rattle.reading.specs.declared.Outcome.TheVariants.{Ended, Refused as Failed, Running}
use Rattle.sheet.specs.Adds.{adds, deepest_in, sheet_size, story, texts_taken, work_limit}
use Rattle.sheet.specs.declared.Taken.{Taken}
use Rattle.sheet.specs.declared.Taken.TheVariants.{Refused, Tallied, Whole}
use Rattle.record.specs.declared.Refusal.{Refusal}

-- "exactly for a 1,025th text"
abbrev pub most_texts : ℕ
most_texts = 1024

-- no number is above n
unfoldable pub within : ℕ → List ℕ → Bool
within n [] = true
within n (x ∷ xs) = leb x n && within n xs

-- "a sheet with a total above 2^50 for each text taken" is none
unfoldable pub is_sheet : List ℕ → Bool
is_sheet sheet = within (work_limit * get_or sheet texts_taken 0) (take sheet_size sheet)

-- what a text that is read comes to: its end, or an error, which is tallied
abbrev pub taken_as : Outcome → Taken
taken_as Ended = Whole
taken_as (Failed r) = Tallied r
taken_as Running = Whole

abbrev pub taken_by : Result Unit Refusal → List ℕ → List ℕ → Taken
taken_by (Err r) s sheet = Refused r
taken_by (Ok tt) s sheet =
    cond (leb most_texts (get_or sheet texts_taken 0))
    (Refused (refusal SheetFull 0))
    (cond (is_sheet sheet) (taken_as (story s).how) (Refused (refusal BadRecord 0)))

-- fewer numbers than a sheet has are none: 14
unfoldable pub taken : List ℕ → List ℕ → Taken
taken s sheet = cond (ltb (length sheet) sheet_size) (Refused (refusal NoRoom 0)) (taken_by (checks s 0) s sheet)

-- each number with what is added to it; numbers beyond those stay
unfoldable pub plus : List ℕ → List ℕ → List ℕ
plus [] ys = []
plus (x ∷ xs) [] = x ∷ xs
plus (x ∷ xs) (y ∷ ys) = (x + y) ∷ plus xs ys

-- 02, E4: "the sheet the largest": of the depths the greater stays, and not their sum
unfoldable pub added : List ℕ → List ℕ → List ℕ
added sheet row = set (plus sheet row) deepest_in (deeper (get_or sheet deepest_in 0) (get_or row deepest_in 0))

-- what a sheet holds afterwards
abbrev pub held_by : Taken → List ℕ → List ℕ → List ℕ
held_by Whole s sheet = added sheet (adds s)
held_by (Tallied r) s sheet = added sheet (adds s)
held_by (Refused r) s sheet = sheet

unfoldable pub held : List ℕ → List ℕ → List ℕ
held s sheet = held_by (taken s sheet) s sheet
