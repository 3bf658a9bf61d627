-- What a text that a sheet took or refused is told with, and what the sheet's numbers are.
use Rattle.std.specs.Prelude.{ℕ, ◌+◌, cond, List, [], ◌∷◌, ◌++◌, eqb, Some, None}
use Rattle.std.specs.declared.option.Option.{Option}
use Rattle.record.specs.declared.Refusal.{Refusal}
use Rattle.recorded.specs.declared.Difference.{Difference}
use Rattle.recorded.specs.declared.Difference.TheVariants.{Length, Number, Same}
use Rattle.sheet.specs.declared.Taken.{Taken}
use Rattle.sheet.specs.declared.Taken.TheVariants.{Refused, Tallied, Whole}
use Rattle.text.specs.Bytes.{bytes}
use Rattle.text.specs.Digits.{digits}

-- the refusal of a text that was not taken, or of one whose error was tallied
abbrev pub refusal_of : Taken → Option Refusal
refusal_of Whole = None
refusal_of (Tallied r) = Some r
refusal_of (Refused r) = Some r

-- what is said before that refusal's line, or of a text that was taken
unfoldable pub taken_words : Taken → List ℕ
taken_words Whole = bytes "taken\n"
taken_words (Tallied r) = bytes "tallied: "
taken_words (Refused r) = bytes "refused: "

-- a number after its index, where it is not 0
unfoldable pub number_pieces : ℕ → ℕ → List (List ℕ)
number_pieces i n = cond (eqb n 0) [] (bytes " " ∷ digits i ∷ bytes ":" ∷ digits n ∷ [])

-- those of a list, the first of which has an index
unfoldable pub all_pieces : ℕ → List ℕ → List (List ℕ)
all_pieces i [] = []
all_pieces i (n ∷ l) = number_pieces i n ++ all_pieces (i + 1) l

-- a sheet's, as a line
unfoldable pub page_pieces : List ℕ → List (List ℕ)
page_pieces l = bytes " " ∷ (all_pieces 0 l ++ (bytes "\n" ∷ []))

-- whether a sheet is what it was, by where it first differs
unfoldable pub changed_words : Difference → List ℕ
changed_words Same = bytes "  unchanged\n"
changed_words (Number i r a) = bytes "  changed\n"
changed_words (Length m n) = bytes "  changed\n"
