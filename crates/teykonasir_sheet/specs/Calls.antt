-- What the sheet's function for other languages answers and leaves behind, as numbers.
use Rattle.std.specs.Prelude.{ℕ, List, [], ◌∷◌, get_or}
use Rattle.numbers.specs.Leaves.{Left, tell}
use Rattle.numbers.specs.Values.{taken_numbers}
use Rattle.sheet.specs.Sheet.{held, taken}
use Rattle.sheet.specs.declared.Taken.{Taken}

-- "answer: code, place": the code of the error that was tallied, or of the refusal; 0 for a text that was read to its end
abbrev pub taken_code : Taken → ℕ
taken_code t = get_or (taken_numbers t) 1 0

abbrev pub taken_place : Taken → ℕ
taken_place t = get_or (taken_numbers t) 2 0

unfoldable pub sheet_call : List ℕ → List ℕ → List ℕ → Left
sheet_call s sheet answer =
    tell 2 (taken_code (taken s sheet)) (taken_code (taken s sheet) ∷ taken_place (taken s sheet) ∷ []) (held s sheet) sheet answer
