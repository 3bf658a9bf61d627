-- The contracts of the public calls, as a caller has them: `Nexts` of `run::next`, `RunsFrom` of `run::run`. Every theorem here takes such a call.
use Rattle.std.specs.Prelude.{ℕ, Bool, false, true, List, ◌≡◌, length}
use Rattle.record.specs.Records.{over}
use Rattle.record.specs.declared.Reading.{Reading}
use Rattle.record.specs.declared.Token.{Token}
use Rattle.reading.specs.Answers.{start_in}
use Rattle.reading.specs.declared.Outcome.{Outcome}
use Rattle.reading.specs.declared.Outcome.TheVariants.{Ended, Refused, Running}
use Rattle.reading.specs.declared.Tokenizer.{Tokenizer}
use Rattle.reading.specs.declared.What.{What}
use Rattle.run.specs.Checked.{next_token, ran_of, whole_run}
use Rattle.run.specs.declared.Ran.{Ran}
use Rattle.ledger.specs.Codes.{is_error}

-- A call of `run::next` for the text s, with a shift and a work limit: the lent tokenizer before it, its answer, and the tokenizer after it.
-- This is the contract of `run::next`, word for word.
abbrev pub Nexts : List ℕ → ℕ → ℕ → Tokenizer → What → Tokenizer → Type 0
Nexts s shift limit t r u = (r ≡ (next_token s shift limit t).what) × (u ≡ (next_token s shift limit t).next)

-- A call of `run::run` from the tokenizer t: the lent list before it, its answer, and the list after it. This is the contract of `run::run`, word
-- for word; `Runs` (ledger/specs/Books) is this from the start of a text.
abbrev pub RunsFrom : List ℕ → ℕ → ℕ → Tokenizer → List Token → Ran → List Token → Type 0
RunsFrom s shift limit t before r after = (r ≡ ran_of s shift limit (length before) t) × (after ≡ over (whole_run s shift limit (length before) t).tokens before)

-- The tokenizers that a caller has for the text s: those that `tok::start_in` gives for a reading, and those that `run::next` and `run::run` leave, each with
-- any shift, limit and room.
pub data Kept (s : List ℕ) : Tokenizer → Type 0 where
  fresh : (rd : Reading) → Kept s (start_in rd)
  called : {t u : Tokenizer} {r : What} (shift limit : ℕ) → Kept s t → Nexts s shift limit t r u → Kept s u
  ran : {t : Tokenizer} {r : Ran} (shift limit : ℕ) (before after : List Token) → Kept s t → RunsFrom s shift limit t before r after → Kept s r.state

-- "an error or the end": an error of the reading, by the Rust's number 1 to 10
abbrev pub is_final : Outcome → Bool
is_final Running = false
is_final Ended = true
is_final (Refused r) = is_error r.code
