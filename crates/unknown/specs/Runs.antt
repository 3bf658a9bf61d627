-- Runs over any two calls of which one is the map of the other: so are their steps, their runs, and their reports.
use Prim.Native.Nat.{◌+◌, ◌-◌, suc, zero, ℕ}
use Rattle.std.specs.Prelude.{Bool, List, ◌≡◌, ltb, drop, length, Result, Ok, Err}
use Rattle.std.proofs.Math.Bool.{cond, false, true}
use Rattle.std.proofs.Math.Path.{ap, refl}
use Rattle.utf8.specs.Utf8.{boundary, chars}
use Rattle.record.specs.Checks.{checks}
use Rattle.record.specs.Codes.{Refuses, RefusesIn, checks-refuse}
use Rattle.record.specs.Records.{refusal}
use Rattle.record.specs.Rust.{rust_code}
use Rattle.record.specs.declared.Code.{Code}
use Rattle.record.specs.declared.Code.TheVariants.{BadRecord, WorkLimit}
use Rattle.record.specs.declared.Reading.{Reading}
use Rattle.record.specs.declared.Refusal.{Refusal}
use Rattle.record.specs.declared.Token.{Token}
use Rattle.reading.specs.Run.{also, done_by, put, run_from_with, run_with, shift_what, step_by, step_in_with, step_with, stopped, turn}
use Rattle.reading.specs.declared.Call.{Call}
use Rattle.reading.specs.declared.Outcome.{Outcome}
use Rattle.reading.specs.declared.Outcome.TheVariants.{Ended, Refused, Running}
use Rattle.reading.specs.declared.Tokenizer.{Tokenizer}
use Rattle.reading.specs.declared.What.{What}
use Rattle.reading.specs.declared.What.TheVariants.{End, Error, Got}
use Rattle.run.specs.Checked.{next_token_with, ran_with, report, run_if_with, step_if_with, whole_run_with}
use Rattle.unknown.specs.Map.{rust_call, rust_outcome, rust_ran, rust_refusal, rust_run, rust_stepped, rust_tokenizer, rust_what}

-- the map and the shift
shifted : (shift : ℕ) (w : What) → shift_what shift (rust_what w) ≡ rust_what (shift_what shift w)
shifted shift (Got t) = refl
shifted shift (Error r) = refl
shifted shift End = refl

done : (w : What) → done_by (rust_what w) ≡ rust_outcome (done_by w)
done (Got t) = refl
done (Error r) = refl
done End = refl

step_by_lem : (shift limit : ℕ) (t : Tokenizer) (x : Call) → step_by shift limit (rust_tokenizer t) (rust_call x) ≡ rust_stepped (step_by shift limit t x)
step_by_lem shift limit t x = go (ltb limit (t.count + x.advances))
  where
    after : What → Tokenizer
    after w = record { at = x.at; count = t.count + x.advances; done = done_by w; reading = t.reading }

    go : (b : Bool)
        → cond b (record { what = Error (refusal WorkLimit (t.at + shift)); next = rust_tokenizer t; gap_depth = 0 })
        (record { what = shift_what shift (rust_what x.what); next = after (shift_what shift (rust_what x.what)); gap_depth = x.gap_depth })
        ≡ rust_stepped (cond b (record { what = Error (refusal WorkLimit (t.at + shift)); next = t; gap_depth = 0 }) (record { what = shift_what shift x.what; next = after (shift_what shift x.what); gap_depth = x.gap_depth }))
    go true = refl
    go false = rw (shifted shift x.what, done (shift_what shift x.what))

module _ (old new : Reading → List ℕ → ℕ → Call) (mapped : (rd : Reading) (cs : List ℕ) (at : ℕ) → old rd cs at ≡ rust_call (new rd cs at)) (s : List ℕ) (shift limit : ℕ) where
  -- one step
  pub step-mapped : (t : Tokenizer) → step_with old s shift limit (rust_tokenizer t) ≡ rust_stepped (step_with new s shift limit t)
  unfolding step_with
  step-mapped t = go t.done
    where
      go : (d : Outcome) → step_in_with old (rust_outcome d) s shift limit (rust_tokenizer t) ≡ rust_stepped (step_in_with new d s shift limit t)
      go Running = rw (mapped t.reading (chars (drop t.at s)) t.at) (step_by_lem shift limit t (new t.reading (chars (drop t.at s)) t.at))
      go Ended = refl
      go (Refused r) = refl

  -- a run
  from-mapped : (k room : ℕ) (t : Tokenizer) → run_from_with old s shift limit k room (rust_tokenizer t) ≡ rust_run (run_from_with new s shift limit k room t)
  unfolding run_from_with
  from-mapped zero room t = refl
  from-mapped (suc k) room t = rw (step-mapped t) (go (from-mapped k) (step_with new s shift limit t).what (step_with new s shift limit t).next (step_with new s shift limit t).gap_depth)
    where
      Again : Type 0
      Again = (room : ℕ) (u : Tokenizer) → run_from_with old s shift limit k room (rust_tokenizer u) ≡ rust_run (run_from_with new s shift limit k room u)

      some : Again → (y : Token) (u : Tokenizer) (g : ℕ) (b : Bool)
          → put (run_from_with old s shift limit k) room (rust_tokenizer t) (rust_tokenizer u) g b y ≡ rust_run (put (run_from_with new s shift limit k) room t u g b y)
      some ih y u g true = ap (also y) (ih (room - 1) u)
      some ih y u g false = refl

      go : Again → (w : What) (u : Tokenizer) (g : ℕ)
          → turn (run_from_with old s shift limit k) room (rust_tokenizer t) (rust_tokenizer u) g (rust_what w) ≡ rust_run (turn (run_from_with new s shift limit k) room t u g w)
      go ih (Got y) u g = some ih y u g (ltb 0 room)
      go ih (Error r) u g = refl
      go ih End u g = refl

  run-mapped : (room : ℕ) (t : Tokenizer) → run_with old s shift limit room (rust_tokenizer t) ≡ rust_run (run_with new s shift limit room t)
  unfolding run_with
  run-mapped room t = from-mapped (suc (length s)) room t

  -- ---- with the checks before it, whose refusals stay
  checked : Refuses (λ (c : Code). rust_code c ≡ c) (checks s shift)
  checked = checks-refuse (λ c. rust_code c ≡ c) refl refl refl s shift

  stays : (z : Refusal) → rust_code z.code ≡ z.code → z ≡ rust_refusal z
  stays z e = rw e

  pub single-mapped : (t : Tokenizer) → next_token_with old s shift limit (rust_tokenizer t) ≡ rust_stepped (next_token_with new s shift limit t)
  unfolding next_token_with
  single-mapped t = go (checks s shift) checked.is
    where
      by : (b : Bool) → cond b (step_with old s shift limit (rust_tokenizer t)) (record { what = Error (refusal BadRecord 0); next = rust_tokenizer t; gap_depth = 0 })
          ≡ rust_stepped (cond b (step_with new s shift limit t) (record { what = Error (refusal BadRecord 0); next = t; gap_depth = 0 }))
      by true = step-mapped t
      by false = refl

      go : (c : Result Unit Refusal) → RefusesIn (λ (c : Code). rust_code c ≡ c) c → step_if_with old c s shift limit (rust_tokenizer t) ≡ rust_stepped (step_if_with new c s shift limit t)
      go (Ok tt) h = by (boundary s t.at)
      go (Err z) h = let e = stays z h in rw (← e)

  pub whole-mapped : (room : ℕ) (t : Tokenizer) → whole_run_with old s shift limit room (rust_tokenizer t) ≡ rust_run (whole_run_with new s shift limit room t)
  unfolding whole_run_with
  whole-mapped room t = go (checks s shift) checked.is
    where
      by : (b : Bool) → cond b (run_with old s shift limit room (rust_tokenizer t)) (stopped (Refused (refusal BadRecord 0)) (rust_tokenizer t))
          ≡ rust_run (cond b (run_with new s shift limit room t) (stopped (Refused (refusal BadRecord 0)) t))
      by true = run-mapped room t
      by false = refl

      go : (c : Result Unit Refusal) → RefusesIn (λ (c : Code). rust_code c ≡ c) c → run_if_with old c s shift limit room (rust_tokenizer t) ≡ rust_run (run_if_with new c s shift limit room t)
      go (Ok tt) h = by (boundary s t.at)
      go (Err z) h = let e = stays z h in rw (← e)

  pub ran-mapped : (room : ℕ) (t : Tokenizer) → ran_with old s shift limit room (rust_tokenizer t) ≡ rust_ran (ran_with new s shift limit room t)
  unfolding ran_with
  ran-mapped room t = ap (report (checks s shift)) (whole-mapped room t)
