-- ONE STORY IN BOTH READINGS. Where neither meets one of the three places (Places), they are equal in every field: of one call, of the public single call, and of a
-- whole run. The tokenizer tells which reading it is in; all else that they answer and leave is one. Each theorem of a public call takes what its contract allows.
use Prim.Native.Nat.{◌+◌, ◌-◌, suc, zero, ℕ}
use Rattle.std.specs.Prelude.{Bool, ◌&&◌, not, List, ◌≡◌, ltb, length, Result, Ok, Err}
use Rattle.std.proofs.Math.Bool.{cond, false, true}
use Rattle.std.proofs.Common.{◌∙◌, ap, sym}
use Rattle.std.proofs.Math.Path.{refl}
use Rattle.utf8.specs.Utf8.{boundary}
use Rattle.record.specs.Checks.{checks}
use Rattle.record.specs.Records.{over, refusal}
use Rattle.record.specs.declared.Code.TheVariants.{BadRecord}
use Rattle.record.specs.declared.Reading.{Reading}
use Rattle.record.specs.declared.Reading.TheVariants.{Kept, Old}
use Rattle.record.specs.declared.Token.{Token}
use Rattle.scan.specs.Until.{left}
use Rattle.reading.proofs.AnyCall.{step_reading}
use Rattle.reading.specs.Next.{next}
use Rattle.reading.specs.Run.{Run, also, put, run, run_from, run_from_with, run_with, step, step_by, step_in, step_with, stopped, turn}
use Rattle.reading.specs.declared.Call.{Call}
use Rattle.reading.specs.declared.Outcome.{Outcome}
use Rattle.reading.specs.declared.Outcome.TheVariants.{Ended, Refused, Running}
use Rattle.reading.specs.declared.Stepped.{Stepped}
use Rattle.reading.specs.declared.Tokenizer.{Tokenizer}
use Rattle.reading.specs.declared.What.{What}
use Rattle.reading.specs.declared.What.TheVariants.{End, Error, Got}
use Rattle.run.specs.Checked.{next_token, next_token_with, ran_with, report, run_if, step_if, whole_run, whole_run_with}
use Rattle.run.specs.declared.Ran.{Ran}
use Rattle.ledger.specs.Order.{step_got}
use Rattle.callers.specs.PublicCalls.{Nexts, RunsFrom}
use Rattle.kept.specs.Calls.{one-call}
use Rattle.kept.specs.Covers.{no}
use Rattle.kept.specs.Places.{calm, further, meets}
use Rattle.record.specs.declared.Refusal.{Refusal}

-- the same tokenizer in another reading, and the same answers
abbrev pub in_reading : Reading → Tokenizer → Tokenizer
in_reading rd t = record { at = t.at; count = t.count; done = t.done; reading = rd }

abbrev pub stepped_in : Reading → Stepped → Stepped
stepped_in rd x = record { what = x.what; next = in_reading rd x.next; gap_depth = x.gap_depth }

abbrev pub run_in : Reading → Run → Run
run_in rd r = record { tokens = r.tokens; how = r.how; state = in_reading rd r.state; last = r.last }

abbrev pub ran_in : Reading → Ran → Ran
ran_in rd r = record { stored = r.stored; how = r.how; advances = r.advances; state = in_reading rd r.state; last_depth = r.last_depth }

-- a tokenizer is in its own reading
own : (t : Tokenizer) (rd : Reading) → t.reading ≡ rd → in_reading rd t ≡ t
own t rd e = ap (λ (x : Reading). record { at = t.at; count = t.count; done = t.done; reading = x }) (sym e)

-- ---- what `calm` says of the first call, and of those after it
not_so : (b : Bool) → not b ≡ true → b ≡ false
not_so true h = no (sym h)
not_so false h = refl

both : (x y : Bool) → (x && y) ≡ true → (x ≡ true) × (y ≡ true)
both true y h = (refl, h)
both false y h = no (sym h)

calm_here : (k : ℕ) (s : List ℕ) (at : ℕ) → calm (suc k) s at ≡ true → meets (left s at) at ≡ false
unfolding calm
calm_here k s at e =
    not_so (meets (left s at) at) (both (not (meets (left s at) at)) (further (next Old (left s at) at).what (calm k s (next Old (left s at) at).at)) e).0

calm-on : (k : ℕ) (s : List ℕ) (at : ℕ) (x : Token) → (next Old (left s at) at).what ≡ Got x → calm (suc k) s at ≡ true → calm k s (next Old (left s at) at).at ≡ true
unfolding calm
calm-on k s at x w e = rw w at (both (not (meets (left s at) at)) (further (next Old (left s at) at).what (calm k s (next Old (left s at) at).at)) e).1

module _ (s : List ℕ) (shift limit : ℕ) where
  -- ---- one step
  by_same : (t : Tokenizer) (x : Call) → step_by shift limit (in_reading Kept t) x ≡ stepped_in Kept (step_by shift limit (in_reading Old t) x)
  by_same t x = go (ltb limit (t.count + x.advances)) refl
    where
      go : (b : Bool) → ltb limit (t.count + x.advances) ≡ b → step_by shift limit (in_reading Kept t) x ≡ stepped_in Kept (step_by shift limit (in_reading Old t) x)
      go true q = rw q
      go false q = rw q

  step_same : (t : Tokenizer) → meets (left s t.at) t.at ≡ false → step s shift limit (in_reading Kept t) ≡ stepped_in Kept (step s shift limit (in_reading Old t))
  unfolding step_with
  step_same t e = go t.done
    where
      go : (d : Outcome) → step_in d s shift limit (in_reading Kept t) ≡ stepped_in Kept (step_in d s shift limit (in_reading Old t))
      go Running = let c = one-call (left s t.at) t.at e in rw (← c) (by_same t (next Old (left s t.at) t.at))
      go Ended = refl
      go (Refused r) = refl

  -- ---- a run
  from-same : (k room : ℕ) (t : Tokenizer) → calm k s t.at ≡ true → run_from s shift limit k room (in_reading Kept t) ≡ run_in Kept (run_from s shift limit k room (in_reading Old t))
  unfolding run_from_with
  from-same zero room t e = refl
  from-same (suc k) room t e =
      rw (step_same t (calm_here k s t.at e))
      (go (λ m u. from-same k m u) (step s shift limit (in_reading Old t)).what refl)
    where
      u : Tokenizer
      u = (step s shift limit (in_reading Old t)).next

      g : ℕ
      g = (step s shift limit (in_reading Old t)).gap_depth

      Again : Type 0
      Again = (m : ℕ) (v : Tokenizer) → calm k s v.at ≡ true → run_from s shift limit k m (in_reading Kept v) ≡ run_in Kept (run_from s shift limit k m (in_reading Old v))

      -- the calls go on from the cursor of this one
      on : (y : Token) → (step s shift limit (in_reading Old t)).what ≡ Got y → calm k s u.at ≡ true
      on y w = let g = step_got s shift limit (in_reading Old t) y w in rw g.1 (calm-on k s t.at g.0.token g.0.got e)

      some : Again → (y : Token) → (step s shift limit (in_reading Old t)).what ≡ Got y → (b : Bool)
          → put (run_from s shift limit k) room (in_reading Kept t) (in_reading Kept u) g b y ≡ run_in Kept (put (run_from s shift limit k) room (in_reading Old t) u g b y)
      some ih y w true =
          let o = own u Old (step_reading next s shift limit (in_reading Old t)) in
          ap (also y) (ih (room - 1) u (on y w) ∙ ap (λ (v : Tokenizer). run_in Kept (run_from s shift limit k (room - 1) v)) o)
      some ih y w false = refl

      go : Again → (w : What) → (step s shift limit (in_reading Old t)).what ≡ w
          → turn (run_from s shift limit k) room (in_reading Kept t) (in_reading Kept u) g w ≡ run_in Kept (turn (run_from s shift limit k) room (in_reading Old t) u g w)
      go ih (Got y) q = some ih y q (ltb 0 room)
      go ih (Error r) q = refl
      go ih End q = refl

  run-same : (room : ℕ) (t : Tokenizer) → calm (suc (length s)) s t.at ≡ true → run s shift limit room (in_reading Kept t) ≡ run_in Kept (run s shift limit room (in_reading Old t))
  unfolding run_with
  run-same room t e = from-same (suc (length s)) room t e

  -- ---- with the checks before it
  next-same : (t : Tokenizer) → meets (left s t.at) t.at ≡ false → next_token s shift limit (in_reading Kept t) ≡ stepped_in Kept (next_token s shift limit (in_reading Old t))
  unfolding next_token_with
  next-same t e = go (checks s shift)
    where
      by : (b : Bool) → cond b (step s shift limit (in_reading Kept t)) (record { what = Error (refusal BadRecord 0); next = in_reading Kept t; gap_depth = 0 })
          ≡ stepped_in Kept (cond b (step s shift limit (in_reading Old t)) (record { what = Error (refusal BadRecord 0); next = in_reading Old t; gap_depth = 0 }))
      by true = step_same t e
      by false = refl

      go : (c : Result Unit Refusal) → step_if c s shift limit (in_reading Kept t) ≡ stepped_in Kept (step_if c s shift limit (in_reading Old t))
      go (Ok tt) = by (boundary s t.at)
      go (Err z) = refl

  whole_same : (room : ℕ) (t : Tokenizer) → calm (suc (length s)) s t.at ≡ true → whole_run s shift limit room (in_reading Kept t) ≡ run_in Kept (whole_run s shift limit room (in_reading Old t))
  unfolding whole_run_with
  whole_same room t e = go (checks s shift)
    where
      by : (b : Bool) → cond b (run s shift limit room (in_reading Kept t)) (stopped (Refused (refusal BadRecord 0)) (in_reading Kept t))
          ≡ run_in Kept (cond b (run s shift limit room (in_reading Old t)) (stopped (Refused (refusal BadRecord 0)) (in_reading Old t)))
      by true = run-same room t e
      by false = refl

      go : (c : Result Unit Refusal) → run_if c s shift limit room (in_reading Kept t) ≡ run_in Kept (run_if c s shift limit room (in_reading Old t))
      go (Ok tt) = by (boundary s t.at)
      go (Err z) = refl

-- ---- THE THEOREMS
-- ONE CALL (Calls): `one-call : meets cs at ≡ false → next Old cs at ≡ next Kept cs at`

-- THE SINGLE CALL: what `run::next` answers, and the tokenizer that it leaves
pub one_single : (s : List ℕ) (shift limit : ℕ) (t : Tokenizer) → meets (left s t.at) t.at ≡ false → (r r' : What) (u u' : Tokenizer)
    → Nexts s shift limit (in_reading Old t) r u → Nexts s shift limit (in_reading Kept t) r' u' → (r' ≡ r) × (u' ≡ in_reading Kept u)
one_single s shift limit t e r r' u u' c d =
    let h = next-same s shift limit t e in
    (d.0 ∙ ap (λ (x : Stepped). x.what) h ∙ sym c.0, d.1 ∙ ap (λ (x : Stepped). x.next) h ∙ ap (in_reading Kept) (sym c.1))

-- A WHOLE RUN: what `run::run` answers, and what the lent list holds. None of its calls meets one of the places: so says `calm`, of the old reading's calls
pub one-run : (s : List ℕ) (shift limit : ℕ) (t : Tokenizer) → calm (suc (length s)) s t.at ≡ true → (before : List Token) (r r' : Ran) (after after' : List Token)
    → RunsFrom s shift limit (in_reading Old t) before r after → RunsFrom s shift limit (in_reading Kept t) before r' after' → (r' ≡ ran_in Kept r) × (after' ≡ after)
unfolding ran_with
one-run s shift limit t e before r r' after after' c d =
    let h = whole_same s shift limit (length before) t e in (
      d.0 ∙ ap (report (checks s shift)) h ∙ ap (ran_in Kept) (sym c.0),
      d.1 ∙ ap (λ (x : Run). over x.tokens before) h ∙ sym c.1,
    )
