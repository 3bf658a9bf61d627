-- THE NUMBERS OF EVERY ANSWER. 01: "When an answer is an enum, a definition gives this paper's number and values for each enum case. The promises use
-- this definition." Here for each enum that a public function answers. Where it can refuse, the first number is the refusal's number in 01's table, 0
-- where nothing is refused; the second is its place, 0 where nothing is refused; then come the values. Where nothing is answered there are no numbers.
use Rattle.std.specs.Prelude.{ℕ, List, [], ◌∷◌, ◌++◌, get_or, Option, Some, None, Result, Ok, Err}
use Rattle.record.specs.Numbers.{code_number, kind_number}
use Rattle.record.specs.Readings.{reading_number}
use Rattle.record.specs.declared.Refusal.{Refusal}
use Rattle.record.specs.declared.Token.{Token}
use Rattle.reading.specs.declared.Outcome.{Outcome}
use Rattle.reading.specs.declared.Outcome.TheVariants.{Ended, Refused, Running}
use Rattle.reading.specs.declared.What.{What}
use Rattle.reading.specs.declared.What.TheVariants.{End, Error, Got}
use Rattle.run.specs.Numbers.{numbers_of}
use Rattle.escapes.specs.declared.Held.{Held}
use Rattle.escapes.specs.declared.Held.TheVariants.{Buffer, Text}
use Rattle.sheet.specs.declared.Taken.{Taken}
use Rattle.escapes.specs.declared.Part.{Part}
use Rattle.place.specs.declared.Place.{Place}
use Rattle.record.specs.declared.Reading.{Reading}
use Rattle.record.specs.declared.Kind.{Kind}
use Rattle.sheet.specs.declared.Taken.TheVariants.{Refused as NotTaken, Tallied, Whole}

-- 01: "A refusal is a record of its code and its place."
abbrev pub refusal_numbers : Refusal → List ℕ
refusal_numbers r = code_number r.code ∷ r.place ∷ []

-- nothing is refused
abbrev pub no_refusal : List ℕ
no_refusal = 0 ∷ 0 ∷ []

-- what a record tells besides: 1 and the number where it is known
abbrev pub told_numbers : Option ℕ → List ℕ
told_numbers (Some n) = 1 ∷ n ∷ []
told_numbers None = 0 ∷ 0 ∷ []

-- a token by its "kind, start, end, payload start, payload end", and its two depths
abbrev pub token_numbers : Token → List ℕ
token_numbers t = numbers_of t ++ (told_numbers t.gap_depth ++ told_numbers t.code_depth)

-- `reading::What`, a call's answer: a token, a refusal, or the end
abbrev pub what_numbers : What → List ℕ
what_numbers (Got t) = no_refusal ++ token_numbers t
what_numbers (Error r) = refusal_numbers r
what_numbers End = no_refusal

-- `reading::Outcome`, how a run stopped: at the end or by a refusal; while it runs nothing is answered
abbrev pub outcome_numbers : Outcome → List ℕ
outcome_numbers Running = []
outcome_numbers Ended = no_refusal
outcome_numbers (Refused r) = refusal_numbers r

-- its code and its place; both 0 where nothing is refused
abbrev pub how_code : Outcome → ℕ
how_code how = get_or (outcome_numbers how) 0 0

abbrev pub how_place : Outcome → ℕ
how_place how = get_or (outcome_numbers how) 1 0

-- of a check
abbrev pub checked_numbers : Result Unit Refusal → List ℕ
checked_numbers (Ok tt) = no_refusal
checked_numbers (Err r) = refusal_numbers r

-- the kind that has a number: that number
abbrev pub known_numbers : Option Kind → List ℕ
known_numbers (Some k) = kind_number k ∷ []
known_numbers None = []

-- the reading that was chosen, by its number
abbrev pub chosen_numbers : Option Reading → List ℕ
chosen_numbers (Some rd) = reading_number rd ∷ []
chosen_numbers None = []

-- an expansion: the slice that holds it (0 the text, 1 the buffer), its start and its end
abbrev pub held_number : Held → ℕ
held_number Text = 0
held_number Buffer = 1

abbrev pub expanded_numbers : Result Part Refusal → List ℕ
expanded_numbers (Ok p) = no_refusal ++ (held_number p.held ∷ p.start ∷ p.end ∷ [])
expanded_numbers (Err r) = refusal_numbers r ++ (0 ∷ 0 ∷ 0 ∷ [])

-- of the place reporter: line and column
abbrev pub reported_numbers : Result Place Refusal → List ℕ
reported_numbers (Ok p) = no_refusal ++ (p.line ∷ p.column ∷ [])
reported_numbers (Err r) = refusal_numbers r ++ (0 ∷ 0 ∷ [])

-- of the way back: the place
abbrev pub located_numbers : Result ℕ Refusal → List ℕ
located_numbers (Ok p) = no_refusal ++ (p ∷ [])
located_numbers (Err r) = refusal_numbers r ++ (0 ∷ [])

-- of the LTK reader and writer: how many records were read, or bytes written
abbrev pub answer_numbers : Result ℕ Refusal → List ℕ
answer_numbers (Ok n) = no_refusal ++ (n ∷ [])
answer_numbers (Err r) = refusal_numbers r ++ (0 ∷ [])

-- one record of a file
abbrev pub found_numbers : Option Token → List ℕ
found_numbers (Some t) = token_numbers t
found_numbers None = []

-- `sheet::Taken`, of a sheet that is handed a text: 1 where the text was taken, else 0; then the refusal, which is the text's error where that was tallied
abbrev pub taken_numbers : Taken → List ℕ
taken_numbers Whole = 1 ∷ no_refusal
taken_numbers (Tallied r) = 1 ∷ refusal_numbers r
taken_numbers (NotTaken r) = 0 ∷ refusal_numbers r
