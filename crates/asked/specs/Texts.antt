-- A text, asked in three forms.
use Rattle.std.specs.Prelude.{◌*◌, ◌+◌, ◌-◌, suc, zero, ℕ, Bool, ◌&&◌, cond, List, [], ◌∷◌, eqb, leb, ltb, drop, length, replicate, take}
use Rattle.record.specs.Numbers.{code_number, kind_number}
use Rattle.record.specs.Records.{over}
use Rattle.record.specs.Rust.{rust_number}
use Rattle.record.specs.declared.Token.{Token}
use Rattle.reading.specs.Answers.{start_state}
use Rattle.reading.specs.declared.Outcome.{Outcome}
use Rattle.reading.specs.declared.Outcome.TheVariants.{Ended, Refused, Running}
use Rattle.reading.specs.declared.Tokenizer.{Tokenizer}
use Rattle.reading.specs.declared.What.{What}
use Rattle.reading.specs.declared.What.TheVariants.{End, Error, Got}
use Rattle.run.specs.Checked.{next_token, ran_of, whole_run}
use Rattle.run.specs.Numbers.{numbers_all}
use Rattle.run.specs.Payload.{is_payload, payload}
use Rattle.run.specs.declared.Ran.{Ran}
use Rattle.lent.specs.Copies.{fitted, highest_limit, list_room}
use Rattle.recorded.specs.Recorded.{differ}
use Rattle.recorded.specs.declared.Difference.{Difference}
use Rattle.recorded.specs.declared.Difference.TheVariants.{Length, Same}
use Rattle.asked.specs.Answers.{answer_differs, onward}

-- the most tokens of a recorded text, and the numbers that they take
abbrev pub most_tokens : ℕ
most_tokens = 4000

abbrev pub room_for : ℕ
room_for = 20000

-- what the list holds before a run
unfoldable pub blank : List ℕ
blank = replicate room_for 9999999999999999999

-- a refusal's number, as the Rust has it, and its place; 0 at the end, and 255, which no refusal has, for a run that goes on
abbrev pub code_of : Outcome → ℕ
code_of (Refused r) = rust_number (code_number r.code)
code_of Ended = 0
code_of Running = 255

abbrev pub place_of : Outcome → ℕ
place_of (Refused r) = r.place
place_of Ended = 0
place_of Running = 0

-- number of tokens, code, place, advances, cursor
abbrev pub head_of : ℕ → ℕ → ℕ → ℕ → ℕ → List ℕ
head_of tokens code place advances at = tokens ∷ code ∷ place ∷ advances ∷ at ∷ []

-- the numbers of so many tokens
unfoldable pub size : ℕ → ℕ
size n = cond (ltb most_tokens n) room_for (5 * n)

-- as many numbers are recorded as answered
unfoldable pub length_differs : ℕ → ℕ → Difference
length_differs r a = cond (eqb r a) Same (Length r a)

-- ---- a whole run, which left its tokens in a list as five numbers each
unfoldable pub run_differs : List ℕ → Ran → List ℕ → Difference
run_differs recorded r list =
    answer_differs 5 recorded (head_of r.stored (code_of r.how) (place_of r.how) r.advances r.state.at) (take (size r.stored) list)

module _ (s : List ℕ) (shift : ℕ) where
  -- the token's payload is read, and is as long as its places say
  unfoldable pub is_read : Token → Bool
  is_read t =
      is_payload s shift t.payload_start t.payload_end
      && eqb (length (payload s shift t)) (t.payload_end - t.payload_start)

  -- 255, which no kind has, for a token whose payload is not read
  abbrev pub kind_of : Token → ℕ
  kind_of t = cond (is_read t) (kind_number t.kind) 255

module _ (s : List ℕ) (shift : ℕ) (recorded : List ℕ) where
  -- `run::run` into a lent list of records
  abbrev pub listed_differs : Difference
  listed_differs =
      run_differs recorded (ran_of s shift highest_limit list_room start_state)
      (fitted (numbers_all (whole_run s shift highest_limit list_room start_state).tokens) blank)

  -- `run::run_numbers`
  abbrev pub numbered_differs : Difference
  numbered_differs =
      run_differs recorded (ran_of s shift highest_limit most_tokens start_state)
      (over (numbers_all (whole_run s shift highest_limit most_tokens start_state).tokens) blank)

  -- ---- `run::next`, call by call
  -- a token after n others; one that is not recorded is seen by the number of tokens
  unfoldable pub token_differs : ℕ → Token → Difference
  token_differs n t =
      cond (leb (length recorded) (5 + 5 * n)) Same
      (differ (5 + 5 * n) (take 5 (drop (5 + 5 * n) recorded)) (kind_of s shift t ∷ t.start ∷ t.end ∷ t.payload_start ∷ t.payload_end ∷ []))

  -- the end, after n tokens, which are compared: the tokenizer's count and cursor are the answer's
  unfoldable pub end_differs : ℕ → ℕ → ℕ → Tokenizer → Difference
  end_differs n code place t = onward (differ 0 (take 5 recorded) (head_of n code place t.count t.at)) (length_differs (length (drop 5 recorded)) (size n))

  module _ (rest : ℕ → Tokenizer → Difference) (n : ℕ) (u : Tokenizer) where
    abbrev pub call_differs : What → Difference
    call_differs (Got t) = onward (token_differs n t) (rest (n + 1) u)
    call_differs (Error r) = end_differs n (rust_number (code_number r.code)) r.place u
    call_differs End = end_differs n 0 0 u

  -- so many calls more, after n tokens
  unfoldable pub calls_differ : ℕ → ℕ → Tokenizer → Difference
  calls_differ zero n t = Length (length recorded) room_for
  calls_differ (suc k) n t =
      call_differs (calls_differ k) n (next_token s shift highest_limit t).next (next_token s shift highest_limit t).what

  abbrev pub called_differs : Difference
  called_differs = calls_differ most_tokens 0 start_state
