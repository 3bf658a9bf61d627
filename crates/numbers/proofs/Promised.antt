-- THE PROMISES IN NUMBERS of the tokenizer, the checks, an expansion, places, the LTK file and the sheet. The definitions, and further promises, stand in
-- specs/Promised.antt.
use Rattle.std.specs.Prelude.{ℕ, ◌+◌, ◌*◌, ◌/◌, Bool, List, [], ◌∷◌, map, ◌≡◌, eqb, ltb, get_or, length, Result, Ok, Err}
use Rattle.std.proofs.Common.{◌∙◌}
use Rattle.std.proofs.Math.Bool.{cond, false, true}
use Rattle.std.proofs.Math.Path.{refl, ap}
use Rattle.utf8.specs.Chars.{'backslash}
use Rattle.utf8.specs.Utf8.{verdict}
use Rattle.record.specs.Checks.{checks, shift_limit, text_limit}
use Rattle.record.specs.declared.Token.{Token}
use Rattle.reading.specs.declared.Outcome.{Outcome}
use Rattle.reading.specs.declared.Tokenizer.{Tokenizer}
use Rattle.reading.specs.declared.What.{What}
use Rattle.run.specs.Checked.{next_token, ran_of}
use Rattle.run.specs.Numbers.{group_size}
use Rattle.run.specs.Pending.{begin_of}
use Rattle.escapes.specs.Answers.{applied, checked, expanded, fit}
use Rattle.escapes.specs.Escapes.{Outcome as Expansion, expand, gives, has_byte, refused}
use Rattle.place.specs.Place.{located, reported}
use Rattle.ltk.specs.Layout.{count_limit, number_at, record_place}
use Rattle.ltk.specs.Ltk.{count_in, entries, entries_in, entry_of, file_check, judged, marked, read_answer, write_answer}
use Rattle.ltk.specs.declared.Entry.{Entry}
use Rattle.sheet.specs.Sheet.{taken}
use Rattle.sheet.specs.declared.Taken.{Taken}
use Rattle.numbers.proofs.Same.{expanded-same}
use Rattle.numbers.specs.Promised.{Tells, tells, numbers_test, text_numbers, text-told, fit_numbers, pass_numbers, judged_numbers, judged-told, short_numbers, bytes-told}
use Rattle.numbers.specs.Same.{answer-same, checked-same, located-same, outcome_same, reported-same, taken-same, what_same}
use Rattle.numbers.specs.Values.{answer_numbers, checked_numbers, expanded_numbers, located_numbers, outcome_numbers, reported_numbers, taken_numbers, what_numbers}
use Rattle.escapes.specs.declared.Part.{Part}
use Rattle.place.specs.declared.Place.{Place}
use Rattle.record.specs.declared.Refusal.{Refusal}

-- ---- the tokenizer
module _ (s : List ℕ) (shift limit : ℕ) (t : Tokenizer) where
  -- `run::next`, and `run::next_token` beside it
  pub next-told : (r : What) → Tells what_numbers r (next_token s shift limit t).what
  next-told r = tells what_numbers what_same r _

  -- `run::run`, with a list for so many records
  pub run-told : (room : ℕ) (r : Outcome) → Tells outcome_numbers r (ran_of s shift limit room t).how
  run-told room r = tells outcome_numbers outcome_same r _

  -- `run::run_numbers`, with a list of so many numbers
  pub run_numbers_told : (size : ℕ) (r : Outcome) → Tells outcome_numbers r (ran_of s shift limit (size / group_size) t).how
  run_numbers_told size r = tells outcome_numbers outcome_same r _

  -- `run::begin`
  pub begin-told : (room : ℕ) (r : Outcome) → Tells outcome_numbers r (begin_of s shift limit room t).ran.how
  begin-told room r = tells outcome_numbers outcome_same r _

-- ---- the checks. `record::checks`
pub checks-told : (s : List ℕ) (shift : ℕ) (r : Result Unit Refusal) → r ≡ checks s shift
    → checked_numbers r ≡ cond (ltb text_limit (length s)) (12 ∷ 0 ∷ []) (cond (ltb shift_limit (shift + length s)) (13 ∷ 0 ∷ []) (text_numbers shift (verdict s)))
unfolding checks
checks-told s shift r e = rw (e, numbers_test checked_numbers, numbers_test checked_numbers, text-told)

-- both ways of each
pub check_told : (r d : Result Unit Refusal) → Tells checked_numbers r d
check_told r d = tells checked_numbers checked-same r d

-- ---- an expansion. `escapes::apply_string_escapes`
pub expand-told : (s : List ℕ) (idx0 : ℕ) (d : List ℕ) (place : ℕ) (r : Result Part Refusal) → Tells expanded_numbers r (applied s idx0 d place).answer
expand-told s idx0 d place r = tells expanded_numbers expanded-same r _

module _ (s : List ℕ) (idx0 : ℕ) (d : List ℕ) (place : ℕ) where
  fit-told : (x : Expansion) → expanded_numbers (fit idx0 d place x).answer ≡ fit_numbers idx0 d place x
  fit-told (gives l) = go (ltb (length d) (place + length l)) refl
    where
      go : (b : Bool) → ltb (length d) (place + length l) ≡ b → expanded_numbers (fit idx0 d place (gives l)).answer ≡ fit_numbers idx0 d place (gives l)
      go true q = rw q
      go false q = rw q
  fit-told (refused r) = refl

  abbrev pub whole_numbers : List ℕ
  whole_numbers = cond (has_byte 'backslash s) (fit_numbers idx0 d place (expand s idx0)) (0 ∷ 0 ∷ 0 ∷ 0 ∷ length s ∷ [])

  expanded-told : expanded_numbers (expanded s idx0 d place).answer ≡ whole_numbers
  unfolding expanded
  expanded-told = go (has_byte 'backslash s) refl
    where
      go : (b : Bool) → has_byte 'backslash s ≡ b → expanded_numbers (expanded s idx0 d place).answer ≡ whole_numbers
      go true q = rw q (fit-told (expand s idx0))
      go false q = rw q

  pub applied-told : (r : Result Part Refusal) → r ≡ (applied s idx0 d place).answer → expanded_numbers r ≡ pass_numbers (checks s idx0) whole_numbers
  unfolding applied
  applied-told r e = ap expanded_numbers e ∙ go (checks s idx0)
    where
      go : (c : Result Unit Refusal) → expanded_numbers (checked c (expanded s idx0 d place) d).answer ≡ pass_numbers c whole_numbers
      go (Ok tt) = expanded-told
      go (Err z) = refl

-- ---- line and column, and back. `place::line_column` and `place::place_at`
pub place_told : (s : List ℕ) (p : ℕ) (r : Result Place Refusal) → Tells reported_numbers r (reported s p)
place_told s p r = tells reported_numbers reported-same r _

pub place_at-told : (s : List ℕ) (line column : ℕ) (r : Result ℕ Refusal) → Tells located_numbers r (located s line column)
place_at-told s line column r = tells located_numbers located-same r _

-- ---- the LTK file
-- `ltk::read` and `ltk::read_answer`; `ltk::read_numbers` with so many numbers
pub read_told : (file : List ℕ) (room : ℕ) (r : Result ℕ Refusal) → Tells answer_numbers r (read_answer file room)
read_told file room r = tells answer_numbers answer-same r _

pub read_numbers_told : (file : List ℕ) (size : ℕ) (r : Result ℕ Refusal) → Tells answer_numbers r (read_answer file (size / group_size))
read_numbers_told file size r = tells answer_numbers answer-same r _

-- `ltk::write`, `ltk::write_numbers`
pub write-told : (list : List Token) (room : ℕ) (r : Result ℕ Refusal) → Tells answer_numbers r (write_answer (map entry_of list) room)
write-told list room r = tells answer_numbers answer-same r _

pub write_numbers_told : (list : List ℕ) (room : ℕ) (r : Result ℕ Refusal) → Tells answer_numbers r (write_answer (entries_in list) room)
write_numbers_told list room r = tells answer_numbers answer-same r _

-- `ltk::check`
pub file-told : (file : List ℕ) (r : Result ℕ Refusal) → r ≡ file_check file
    → answer_numbers r
    ≡ cond (marked file)
    (cond (ltb (length file) 9) (19 ∷ 9 ∷ 0 ∷ [])
    (cond (eqb (number_at 2 file 3) 1) (cond (eqb (length file) (9 + 9 * count_in file)) (judged_numbers 0 0 (entries file)) (19 ∷ 9 ∷ 0 ∷ [])) (18 ∷ 3 ∷ 0 ∷ [])))
    (17 ∷ 0 ∷ 0 ∷ [])
unfolding file_check
file-told file r e = simp (e, numbers_test answer_numbers, judged-told)

-- the writer: "12 for a count of 2^32 or more, 20 .. by the same tests, 14 for a short buffer"
pub write-answer-told : (es : List Entry) (room : ℕ) (r : Result ℕ Refusal) → r ≡ write_answer es room
    → answer_numbers r
    ≡ cond (ltb (length es) count_limit)
    (short_numbers (ltb room (record_place (get_or (judged_numbers 0 0 es) 2 0))) (record_place (get_or (judged_numbers 0 0 es) 2 0)) (judged_numbers 0 0 es))
    (12 ∷ 0 ∷ 0 ∷ [])
unfolding write_answer
write-answer-told es room r e =
    ap answer_numbers e ∙ numbers_test answer_numbers (ltb (length es) count_limit) _ _
    ∙ ap (λ (ns : List ℕ). cond (ltb (length es) count_limit) ns (12 ∷ 0 ∷ 0 ∷ []))
    (bytes-told room (judged 0 0 es)
    ∙ ap (λ (ns : List ℕ). short_numbers (ltb room (record_place (get_or ns 2 0))) (record_place (get_or ns 2 0)) ns) (judged-told 0 0 es))

-- ---- the sheet. `sheet::take`
pub take-told : (s sheet : List ℕ) (r : Taken) → Tells taken_numbers r (taken s sheet)
take-told s sheet r = tells taken_numbers taken-same r _
