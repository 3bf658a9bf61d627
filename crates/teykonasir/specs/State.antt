-- A tokenizer as numbers, and back: what `state` holds between two calls.
use Rattle.std.specs.Prelude.{ℕ, ◌-◌, cond, List, [], ◌∷◌, eqb, ltb, get_or, Option, Some, None}
use Rattle.record.specs.Numbers.{code_number, code_of}
use Rattle.record.specs.Records.{refusal}
use Rattle.record.specs.declared.Reading.TheVariants.{Old}
use Rattle.reading.specs.declared.Outcome.{Outcome}
use Rattle.reading.specs.declared.Outcome.TheVariants.{Ended, Refused, Running}
use Rattle.reading.specs.declared.Tokenizer.{Tokenizer}
use Rattle.record.specs.declared.Code.{Code}

-- "done: 0 while it runs, 32 once it has ended, else the error's number; and then the place of that error"
abbrev pub done_numbers : Outcome → List ℕ
done_numbers Running = 0 ∷ []
done_numbers Ended = 32 ∷ []
done_numbers (Refused r) = code_number r.code ∷ r.place ∷ []

-- "cursor, count, done": where there is no error, no fourth number is told
abbrev pub state_numbers : Tokenizer → List ℕ
state_numbers t = t.at ∷ t.count ∷ done_numbers t.done

-- ---- back: the refusal that has a number, from 1 to 29
unfoldable pub code_known : ℕ → Option Code
code_known n = cond (ltb n 1) None (cond (ltb n 30) (Some (code_of n)) None)

-- the functions that take these numbers read in the old reading: it is not among them
abbrev pub state_at : ℕ → ℕ → Outcome → Option Tokenizer
state_at at count done = Some (record { at = at; count = count; done = done; reading = Old })

abbrev pub refused_at : Option Code → ℕ → ℕ → ℕ → Option Tokenizer
refused_at (Some code) at count place = state_at at count (Refused (refusal code place))
refused_at None at count place = None

unfoldable pub state_from : ℕ → ℕ → ℕ → ℕ → Option Tokenizer
state_from at count done place =
    cond (eqb done 0) (state_at at count Running)
    (cond (eqb done 32) (state_at at count Ended) (refused_at (code_known done) at count place))

-- the tokenizer that the first four numbers are
abbrev pub state_of : List ℕ → Option Tokenizer
state_of state = state_from (get_or state 0 0) (get_or state 1 0) (get_or state 2 0) (get_or state 3 0)
