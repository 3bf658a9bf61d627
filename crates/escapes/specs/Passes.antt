-- What the inner functions of the expander promise one another. The answer's definitions (Escapes, Answers) do not use it.
use Rattle.std.specs.Prelude.{Result, Ok, Err, ℕ, ◌+◌, ◌≤◌, Bool, false, List, ◌++◌, leb, length, drop}
use Rattle.record.specs.Checks.{text_limit, shift_limit}
use Rattle.record.specs.declared.Refusal.{Refusal}
use Rattle.escapes.specs.Escapes.{Outcome, gives, refused}

-- what the checks leave: a text and a shift that may be read with it
pub record Readable (s : List ℕ) (idx0 : ℕ) : Type 0 where
  pub short : length s ≤ text_limit
  pub shift : idx0 + length s ≤ shift_limit

-- how many bytes, or the refusal
abbrev pub measured : Outcome → Result ℕ Refusal
measured (gives l) = Ok (length l)
measured (refused r) = Err r

-- whether it is bytes, and n places hold them; and a buffer with them from its start on
abbrev pub fits : Outcome → ℕ → Bool
fits (gives l) n = leb (length l) n
fits (refused r) n = false

abbrev pub over : Outcome → List ℕ → List ℕ
over (gives l) d = l ++ drop (length l) d
over (refused r) d = d
