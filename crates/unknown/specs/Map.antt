-- THE MAP, of all that a call and a run answer. 02, E3: "Demand 2 reads with the finer two mapped back to 1." Only codes change: places, tokens, counts and cursors stay.
use Rattle.record.specs.Records.{refusal}
use Rattle.record.specs.Rust.{rust_code}
use Rattle.record.specs.declared.Refusal.{Refusal}
use Rattle.reading.specs.Run.{Run}
use Rattle.reading.specs.declared.Call.{Call}
use Rattle.reading.specs.declared.Outcome.{Outcome}
use Rattle.reading.specs.declared.Outcome.TheVariants.{Ended, Refused, Running}
use Rattle.reading.specs.declared.Stepped.{Stepped}
use Rattle.reading.specs.declared.Tokenizer.{Tokenizer}
use Rattle.reading.specs.declared.What.{What}
use Rattle.reading.specs.declared.What.TheVariants.{End, Error, Got}
use Rattle.run.specs.declared.Ran.{Ran}

abbrev pub rust_refusal : Refusal → Refusal
rust_refusal r = refusal (rust_code r.code) r.place

abbrev pub rust_what : What → What
rust_what (Got t) = Got t
rust_what (Error r) = Error (rust_refusal r)
rust_what End = End

abbrev pub rust_call : Call → Call
rust_call x = record { what = rust_what x.what; at = x.at; advances = x.advances; gap_depth = x.gap_depth; code_depth = x.code_depth }

-- a tokenizer keeps the error that it answered
abbrev pub rust_outcome : Outcome → Outcome
rust_outcome Running = Running
rust_outcome Ended = Ended
rust_outcome (Refused r) = Refused (rust_refusal r)

abbrev pub rust_tokenizer : Tokenizer → Tokenizer
rust_tokenizer t = record { at = t.at; count = t.count; done = rust_outcome t.done; reading = t.reading }

abbrev pub rust_stepped : Stepped → Stepped
rust_stepped x = record { what = rust_what x.what; next = rust_tokenizer x.next; gap_depth = x.gap_depth }

abbrev pub rust_run : Run → Run
rust_run r = record { tokens = r.tokens; how = rust_outcome r.how; state = rust_tokenizer r.state; last = r.last }

abbrev pub rust_ran : Ran → Ran
rust_ran r = record { stored = r.stored; how = rust_outcome r.how; advances = r.advances; state = rust_tokenizer r.state; last_depth = r.last_depth }
