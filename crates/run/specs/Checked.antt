-- The checks before any reading, for the public single call and for a whole run, over any call; ours is `next`, in the reading of the tokenizer.
use Rattle.std.specs.Prelude.{ℕ, cond, List, length, Result, Ok, Err}
use Rattle.utf8.specs.Utf8.{boundary}
use Rattle.record.specs.Checks.{checks}
use Rattle.record.specs.Records.{refusal}
use Rattle.record.specs.declared.Code.TheVariants.{BadRecord}
use Rattle.record.specs.declared.Reading.{Reading}
use Rattle.reading.specs.Next.{next}
use Rattle.reading.specs.Run.{Run, run_with, step_with, stopped}
use Rattle.reading.specs.declared.Call.{Call}
use Rattle.reading.specs.declared.Outcome.TheVariants.{Refused}
use Rattle.reading.specs.declared.Stepped.{Stepped}
use Rattle.reading.specs.declared.Tokenizer.{Tokenizer}
use Rattle.reading.specs.declared.What.TheVariants.{Error}
use Rattle.run.specs.declared.Ran.{Ran}
use Rattle.record.specs.declared.Refusal.{Refusal}

-- 01: "11 to 13 report count 0"; every other answer reports the tokenizer's
abbrev pub count_if : Result Unit Refusal → ℕ → ℕ
count_if (Ok tt) n = n
count_if (Err r) n = 0

-- what a run reports: how many records it stored, how it stopped, the advances, the tokenizer afterwards, and how deep the last gap goes
abbrev pub report : Result Unit Refusal → Run → Ran
report c r = record { stored = length r.tokens; how = r.how; advances = count_if c r.state.count; state = r.state; last_depth = r.last }

-- over any call: the reading, the characters left, and the place of the first
module _ (call : Reading → List ℕ → ℕ → Call) where
  -- 01: "A public single call repeats the checks, then answers 20, nothing changed, for a cursor off its text's boundaries."
  abbrev pub step_if_with : Result Unit Refusal → List ℕ → ℕ → ℕ → Tokenizer → Stepped
  step_if_with (Ok tt) s shift limit t =
      cond (boundary s t.at) (step_with call s shift limit t) (record { what = Error (refusal BadRecord 0); next = t; gap_depth = 0 })
  step_if_with (Err r) s shift limit t = record { what = Error r; next = t; gap_depth = 0 }

  unfoldable pub next_token_with : List ℕ → ℕ → ℕ → Tokenizer → Stepped
  next_token_with s shift limit t = step_if_with (checks s shift) s shift limit t

  -- a whole run, with the same two checks before it
  abbrev pub run_if_with : Result Unit Refusal → List ℕ → ℕ → ℕ → ℕ → Tokenizer → Run
  run_if_with (Ok tt) s shift limit room t = cond (boundary s t.at) (run_with call s shift limit room t) (stopped (Refused (refusal BadRecord 0)) t)
  run_if_with (Err r) s shift limit room t = stopped (Refused r) t

  unfoldable pub whole_run_with : List ℕ → ℕ → ℕ → ℕ → Tokenizer → Run
  whole_run_with s shift limit room t = run_if_with (checks s shift) s shift limit room t

  unfoldable pub ran_with : List ℕ → ℕ → ℕ → ℕ → Tokenizer → Ran
  ran_with s shift limit room t = report (checks s shift) (whole_run_with s shift limit room t)

-- with our call
abbrev pub step_if : Result Unit Refusal → List ℕ → ℕ → ℕ → Tokenizer → Stepped
step_if = step_if_with next

abbrev pub next_token : List ℕ → ℕ → ℕ → Tokenizer → Stepped
next_token = next_token_with next

abbrev pub run_if : Result Unit Refusal → List ℕ → ℕ → ℕ → ℕ → Tokenizer → Run
run_if = run_if_with next

abbrev pub whole_run : List ℕ → ℕ → ℕ → ℕ → Tokenizer → Run
whole_run = whole_run_with next

abbrev pub ran_of : List ℕ → ℕ → ℕ → ℕ → Tokenizer → Ran
ran_of = ran_with next
