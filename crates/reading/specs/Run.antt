-- A run repeats calls, in the reading of its tokenizer. The shift, the work limit (15) and the room (14) are put on here, over any call; ours is `next`.
use Rattle.std.specs.Prelude.{◌+◌, ◌-◌, suc, zero, ℕ, Bool, cond, false, true, List, [], ◌∷◌, ltb, drop, length}
use Rattle.utf8.specs.Utf8.{chars}
use Rattle.record.specs.Records.{refusal}
use Rattle.record.specs.declared.Code.TheVariants.{NoRoom, WorkLimit}
use Rattle.record.specs.declared.Token.{Token}
use Rattle.record.specs.declared.Reading.{Reading}
use Rattle.reading.specs.Next.{next}
use Rattle.reading.specs.declared.Call.{Call}
use Rattle.reading.specs.declared.Outcome.{Outcome}
use Rattle.reading.specs.declared.Outcome.TheVariants.{Ended, Refused, Running}
use Rattle.reading.specs.declared.Stepped.{Stepped}
use Rattle.reading.specs.declared.Tokenizer.{Tokenizer}
use Rattle.reading.specs.declared.What.{What}
use Rattle.reading.specs.declared.What.TheVariants.{End, Error, Got}

-- places carry the shift
abbrev pub shift_token : ℕ → Token → Token
shift_token k t = record {
  kind = t.kind;
  start = t.start + k;
  end = t.end + k;
  payload_start = t.payload_start + k;
  payload_end = t.payload_end + k;
  gap_depth = t.gap_depth;
  code_depth = t.code_depth;
}

abbrev pub shift_what : ℕ → What → What
shift_what k (Got t) = Got (shift_token k t)
shift_what k (Error r) = Error (refusal r.code (r.place + k))
shift_what k End = End

abbrev pub done_by : What → Outcome
done_by (Got t) = Running
done_by (Error r) = Refused r
done_by End = Ended

-- 01: "15 is given exactly when finishing the next call (token, error or end) would take total advances above the work limit."
-- 15 exactly when finishing the call would take the total advances above the work limit; the state is then as before the call
abbrev pub step_by : ℕ → ℕ → Tokenizer → Call → Stepped
step_by shift limit t x =
    cond (ltb limit (t.count + x.advances))
    (record { what = Error (refusal WorkLimit (t.at + shift)); next = t; gap_depth = 0 })
    (record {
      what = shift_what shift x.what;
      next = record { at = x.at; count = t.count + x.advances; done = done_by (shift_what shift x.what); reading = t.reading };
      gap_depth = x.gap_depth;
    })

-- what a run answers: the tokens delivered, how it stopped, the tokenizer afterwards, and how deep the comments of the last gap go
pub record Run : Type 0 where
  pub tokens : List Token
  pub how : Outcome
  pub state : Tokenizer
  pub last : ℕ

-- 02, E4: "the last gap's stands beside the count, 0 unless the end is reached"
abbrev pub stopped : Outcome → Tokenizer → Run
stopped how t = record { tokens = []; how = how; state = t; last = 0 }

abbrev pub ending : ℕ → Tokenizer → Run
ending g t = record { tokens = []; how = Ended; state = t; last = g }

abbrev pub also : Token → Run → Run
also t r = record { tokens = t ∷ r.tokens; how = r.how; state = r.state; last = r.last }

-- one turn of a run: t before the call, u after it, g deep the gap's comments, and the rest of the run
module _ (rest : ℕ → Tokenizer → Run) (room : ℕ) (t u : Tokenizer) (g : ℕ) where
  -- 14 exactly when the call yields a token and the list is full; the tokenizer is then as before that call
  abbrev pub put : Bool → Token → Run
  put true x = also x (rest (room - 1) u)
  put false x = stopped (Refused (refusal NoRoom x.start)) t

  abbrev pub turn : What → Run
  turn (Got x) = put (ltb 0 room) x
  turn (Error r) = stopped (Refused r) u
  turn End = ending g u

-- over any call: the reading, the characters left, and the place of the first
module _ (call : Reading → List ℕ → ℕ → Call) where
  -- 01: "Once a run has answered an error or the end, further calls repeat it with the same count and place"
  abbrev pub step_in_with : Outcome → List ℕ → ℕ → ℕ → Tokenizer → Stepped
  step_in_with Running s shift limit t = step_by shift limit t (call t.reading (chars (drop t.at s)) t.at)
  step_in_with Ended s shift limit t = record { what = End; next = t; gap_depth = 0 }
  step_in_with (Refused r) s shift limit t = record { what = Error r; next = t; gap_depth = 0 }

  unfoldable pub step_with : List ℕ → ℕ → ℕ → Tokenizer → Stepped
  step_with s shift limit t = step_in_with t.done s shift limit t

  module _ (s : List ℕ) (shift limit : ℕ) where
    -- at most k calls
    unfoldable pub run_from_with : ℕ → ℕ → Tokenizer → Run
    run_from_with zero room t = stopped Running t
    run_from_with (suc k) room t = turn (run_from_with k) room t (step_with s shift limit t).next (step_with s shift limit t).gap_depth (step_with s shift limit t).what

  -- as many calls as bytes, and one more: they suffice where a token passes at least one byte, as each of `next` does
  unfoldable pub run_with : List ℕ → ℕ → ℕ → ℕ → Tokenizer → Run
  run_with s shift limit room t = run_from_with s shift limit (suc (length s)) room t

-- with our call
abbrev pub step_in : Outcome → List ℕ → ℕ → ℕ → Tokenizer → Stepped
step_in = step_in_with next

abbrev pub step : List ℕ → ℕ → ℕ → Tokenizer → Stepped
step = step_with next

abbrev pub run_from : List ℕ → ℕ → ℕ → ℕ → ℕ → Tokenizer → Run
run_from = run_from_with next

abbrev pub run : List ℕ → ℕ → ℕ → ℕ → Tokenizer → Run
run = run_with next
