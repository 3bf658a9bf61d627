-- What each function for other languages answers and leaves behind, as numbers. What is computed is the other crates', and its numbers are those of
-- numbers/specs/Values; here they get their shape.
use Rattle.std.specs.Prelude.{ℕ, ◌/◌, Bool, cond, ◌&&◌, List, [], ◌∷◌, ltb, drop, get_or, length, Option, Some, None, Result, Ok, Err}
use Rattle.record.specs.Numbers.{code_number}
use Rattle.record.specs.Records.{over}
use Rattle.record.specs.declared.Code.TheVariants.{BadRecord, NoRoom}
use Rattle.reading.specs.Answers.{start_state}
use Rattle.run.specs.Checked.{ran_of, whole_run}
use Rattle.run.specs.Numbers.{group_size, numbers_all}
use Rattle.run.specs.declared.Ran.{Ran}
use Rattle.escapes.specs.Answers.{applied}
use Rattle.place.specs.Place.{located, reported}
use Rattle.ltk.specs.Ltk.{entries_in, read_answer, read_numbers, write_answer, written_bytes}
use Rattle.numbers.specs.Leaves.{Left, tell}
use Rattle.numbers.specs.Values.{answer_numbers, expanded_numbers, how_code, how_place, located_numbers, reported_numbers}
use Rattle.text.specs.Names.{code_name, kind_name}
use Rattle.teykonasir.specs.State.{state_numbers, state_of}
use Rattle.reading.specs.declared.Tokenizer.{Tokenizer}
use Rattle.escapes.specs.declared.Part.{Part}
use Rattle.place.specs.declared.Place.{Place}
use Rattle.record.specs.declared.Refusal.{Refusal}

-- ---- a run. "`answer` gets code (0 at the end), place, number of records, advances; the result is the code."
abbrev pub run_numbers : Ran → List ℕ
run_numbers r = how_code r.how ∷ how_place r.how ∷ r.stored ∷ r.advances ∷ []

-- "room is the number of whole groups of five in `records`"
abbrev pub room_in : List ℕ → ℕ
room_in records = length records / group_size

unfoldable pub run_call : List ℕ → ℕ → ℕ → List ℕ → List ℕ → Left
run_call s shift limit records answer =
    tell 4 (how_code (ran_of s shift limit (room_in records) start_state).how) (run_numbers (ran_of s shift limit (room_in records) start_state))
    (over (numbers_all (whole_run s shift limit (room_in records) start_state).tokens) records) records answer

-- ---- a run from the tokenizer that `state` holds, which is moved on: what such a call leaves
pub record Resumed : Type 0 where
  pub result : ℕ
  pub state : List ℕ
  pub lent : List ℕ
  pub numbers : List ℕ

unfoldable pub resumed : List ℕ → ℕ → ℕ → List ℕ → List ℕ → List ℕ → Option Tokenizer → Resumed
resumed s shift limit state records answer (Some t) =
    record {
      result = how_code (ran_of s shift limit (room_in records) t).how;
      state = over (state_numbers (ran_of s shift limit (room_in records) t).state) state;
      lent = over (numbers_all (whole_run s shift limit (room_in records) t).tokens) records;
      numbers = over (run_numbers (ran_of s shift limit (room_in records) t)) answer;
    }
-- "four numbers that are no tokenizer's: 20, place 0, no record, the advances are the count as given; nothing is moved on"
resumed s shift limit state records answer None =
    record {
      result = code_number BadRecord;
      state = state;
      lent = records;
      numbers = over (code_number BadRecord ∷ 0 ∷ 0 ∷ get_or state 1 0 ∷ []) answer;
    }

-- nothing at all is written
abbrev pub unread : List ℕ → List ℕ → List ℕ → Resumed
unread state records answer = record { result = code_number NoRoom; state = state; lent = records; numbers = answer }

-- "14 for a short `answer` or a short `state` is tested first, then whether `state` is a tokenizer's; then all is as the run from it answers"
unfoldable pub resume_call : List ℕ → ℕ → ℕ → List ℕ → List ℕ → List ℕ → Resumed
resume_call s shift limit state records answer =
    cond (ltb (length answer) 4) (unread state records answer)
    (cond (ltb (length state) 4) (unread state records answer) (resumed s shift limit state records answer (state_of state)))

-- ---- an expansion. "`answer` gets place of the refusal, 0 or 1 (the text or the buffer holds the answer), its start, its end."
abbrev pub expand_code : Result Part Refusal → ℕ
expand_code e = get_or (expanded_numbers e) 0 0

abbrev pub expand_numbers : Result Part Refusal → List ℕ
expand_numbers e = drop 1 (expanded_numbers e)

unfoldable pub expand_call : List ℕ → ℕ → List ℕ → ℕ → List ℕ → Left
expand_call s idx0 buffer place answer =
    tell 4 (expand_code (applied s idx0 buffer place).answer) (expand_numbers (applied s idx0 buffer place).answer)
    (applied s idx0 buffer place).buffer buffer answer

-- ---- line and column: nothing else is lent. "`teyk_place` tells line and column; with 11 or 12 it tells the refusal's place and 0"
abbrev pub reported_code : Result Place Refusal → ℕ
reported_code r = get_or (reported_numbers r) 0 0

abbrev pub place_numbers : Result Place Refusal → List ℕ
place_numbers (Ok p) = p.line ∷ p.column ∷ []
place_numbers (Err r) = r.place ∷ 0 ∷ []

unfoldable pub place_call : List ℕ → ℕ → List ℕ → Left
place_call s p answer = tell 2 (reported_code (reported s p)) (place_numbers (reported s p)) [] [] answer

-- ---- and back: the place, with 11 or 12 the refusal's
abbrev pub located_code : Result ℕ Refusal → ℕ
located_code l = get_or (located_numbers l) 0 0

abbrev pub located_number : Result ℕ Refusal → ℕ
located_number (Ok p) = p
located_number (Err r) = r.place

unfoldable pub place_at_call : List ℕ → ℕ → ℕ → List ℕ → Left
place_at_call s line column answer =
    tell 1 (located_code (located s line column)) (located_number (located s line column) ∷ []) [] [] answer

-- ---- the LTK file: code, place, and how many records were read or bytes written
abbrev pub answer_code : Result ℕ Refusal → ℕ
answer_code a = get_or (answer_numbers a) 0 0

abbrev pub answer_place : Result ℕ Refusal → ℕ
answer_place a = get_or (answer_numbers a) 1 0

abbrev pub answer_count : Result ℕ Refusal → ℕ
answer_count a = get_or (answer_numbers a) 2 0

abbrev pub ltk_numbers : Result ℕ Refusal → List ℕ
ltk_numbers a = answer_code a ∷ answer_place a ∷ answer_count a ∷ []

unfoldable pub read_call : List ℕ → List ℕ → List ℕ → Left
read_call file records answer =
    tell 3 (answer_code (read_answer file (room_in records))) (ltk_numbers (read_answer file (room_in records)))
    (over (read_numbers file (room_in records)) records) records answer

unfoldable pub write_call : List ℕ → List ℕ → List ℕ → Left
write_call records buffer answer =
    tell 3 (answer_code (write_answer (entries_in records) (length buffer))) (ltk_numbers (write_answer (entries_in records) (length buffer)))
    (over (written_bytes (entries_in records) (length buffer)) buffer) buffer answer

-- ---- a name, at the buffer's start. "`answer` gets its length, and 0 with a refusal: 20 for a number that none has, 14 for a short buffer."
unfoldable pub name_call : Bool → List ℕ → List ℕ → List ℕ → Left
name_call known name buffer answer =
    cond known
    (cond (ltb (length buffer) (length name))
    (tell 1 (code_number NoRoom) (0 ∷ []) buffer buffer answer)
    (tell 1 0 (length name ∷ []) (over name buffer) buffer answer))
    (tell 1 (code_number BadRecord) (0 ∷ []) buffer buffer answer)

-- "kinds number 0 to 53"
unfoldable pub kind_name_call : ℕ → List ℕ → List ℕ → Left
kind_name_call kind buffer answer = name_call (ltb kind 54) (kind_name kind) buffer answer

-- "codes number 1 to 29"
unfoldable pub code_name_call : ℕ → List ℕ → List ℕ → Left
code_name_call code buffer answer = name_call (ltb 0 code && ltb code 30) (code_name code) buffer answer

-- how a name came into the buffer: its code and its length
abbrev pub came_code : Option ℕ → ℕ
came_code (Some n) = 0
came_code None = code_number NoRoom

abbrev pub came_length : Option ℕ → ℕ
came_length (Some n) = n
came_length None = 0
