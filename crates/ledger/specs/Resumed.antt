-- A run that 14 or 15 stopped, taken up again from the tokenizer that it left: the checks pass again, and it goes on as if it had never stopped.
use Prim.Native.Nat.{ℕ, zero, suc, ◌+◌, ◌-◌, ◌≤◌}
use Rattle.std.proofs.Common.{arith, ap, ◌∙◌, Result, Ok, Err}
use Rattle.std.specs.Prelude.{Bool, false, List, [], ◌++◌, ◌≡◌, ltb, length}
use Rattle.std.proofs.Math.Bool.{true}
use Rattle.std.proofs.Math.Path.{refl, sym}
use Rattle.utf8.proofs.Laws.{boundary-whole, bounded}
use Rattle.utf8.specs.Utf8.{boundary}
use Rattle.record.specs.Allowed.{allowed}
use Rattle.record.specs.Checks.{checks}
use Rattle.record.specs.Records.{refusal}
use Rattle.record.specs.declared.Code.TheVariants.{BadRecord}
use Rattle.record.specs.declared.Refusal.{Refusal}
use Rattle.record.specs.declared.Token.{Token}
use Rattle.scan.specs.Until.{left}
use Rattle.reading.specs.Next.{next}
use Rattle.reading.specs.Run.{Run, done_by, run, run_from, run_from_with, run_with, shift_what, step, step_by, step_in, step_with, stopped}
use Rattle.reading.proofs.Story.{run_end, run_error, run_full, run_got}
use Rattle.reading.proofs.Sums.{placed_far}
use Rattle.reading.specs.declared.Outcome.{Outcome}
use Rattle.reading.specs.declared.Outcome.TheVariants.{Ended, Refused, Running}
use Rattle.reading.specs.declared.Tokenizer.{Tokenizer}
use Rattle.reading.specs.declared.What.{What}
use Rattle.reading.specs.declared.What.TheVariants.{End, Error, Got}
use Rattle.run.specs.Checked.{whole_run, whole_run_with}
use Rattle.run.specs.Steps.{boundary-within, ready_of, step-runs}
use Rattle.run.specs.TakenUp.{before, taken_up}
use Rattle.ledger.specs.Order.{placed}
use Rattle.ledger.specs.Payloads.{On, on_far}

not_refused : {A : Type 0} (z : Refusal) → Refused z ≡ Running → A
not_refused z e = let w : ◌≡◌ {A = ℕ} 0 1 = cc in absurd (omega arith)

not-ended : {A : Type 0} → Ended ≡ Running → A
not-ended e = let w : ◌≡◌ {A = ℕ} 0 1 = cc in absurd (omega arith)

-- ---- the cursor of a tokenizer that is still running is a place that calls came to
module _ (s : List ℕ) (shift limit : ℕ) (t : Tokenizer) where
  call-on : On s t.at → (w : What) → (next t.reading (left s t.at) t.at).what ≡ w → done_by (shift_what shift w) ≡ Running → On s (next t.reading (left s t.at) t.at).at
  call-on o (Got y) e d = on_far s t.at _ _ o (placed_far _ _ _ _ _ _ (placed t.reading s t.at y e))
  call-on o (Error z) e d = not_refused _ d
  call-on o End e d = not-ended d

  by_on : On s t.at → (step_by shift limit t (next t.reading (left s t.at) t.at)).next.done ≡ Running → On s (step_by shift limit t (next t.reading (left s t.at) t.at)).next.at
  by_on o = go (ltb limit (t.count + (next t.reading (left s t.at) t.at).advances)) refl
    where
      go : (b : Bool) → ltb limit (t.count + (next t.reading (left s t.at) t.at).advances) ≡ b
          → (step_by shift limit t (next t.reading (left s t.at) t.at)).next.done ≡ Running → On s (step_by shift limit t (next t.reading (left s t.at) t.at)).next.at
      go true q d = rw q o
      go false q d = rw q (call-on o (next t.reading (left s t.at) t.at).what refl (rw q at d))

  in_on : (d : Outcome) → On s t.at → (step_in d s shift limit t).next.done ≡ Running → On s (step_in d s shift limit t).next.at
  in_on Running o e = by_on o e
  in_on Ended o e = o
  in_on (Refused z) o e = o

  step-on : On s t.at → (step s shift limit t).next.done ≡ Running → On s (step s shift limit t).next.at
  unfolding step_with
  step-on o e = in_on t.done o e

module _ (s : List ℕ) (shift limit : ℕ) where
  abbrev Stays : Run → Type 0
  Stays r = r.state.done ≡ Running → On s r.state.at

  stays-from : (k room : ℕ) (t : Tokenizer) → On s t.at → Stays (run_from s shift limit k room t)
  unfolding run_from_with
  stays-from zero room t o = λ d. o
  stays-from (suc k) room t o = go (λ m u p. stays-from k m u p) (step s shift limit t).what refl
    where
      Again : Type 0
      Again = (m : ℕ) (u : Tokenizer) → On s u.at → Stays (run_from s shift limit k m u)

      some : Again → (y : Token) → (step s shift limit t).what ≡ Got y → (b : Bool) → ltb 0 room ≡ b → Stays (run_from s shift limit (suc k) room t)
      some ih y e true q = rw (run_got s shift limit k room t y e q) (ih (room - 1) (step s shift limit t).next (step-on s shift limit t o (step-runs s shift limit t y e)))
      some ih y e false q = rw (run_full s shift limit k room t y e q) (λ d. o)

      go : Again → (w : What) → (step s shift limit t).what ≡ w → Stays (run_from s shift limit (suc k) room t)
      go ih (Got y) e = some ih y e (ltb 0 room) refl
      go ih (Error z) e = rw (run_error s shift limit k room t z e) (λ d. step-on s shift limit t o d)
      go ih End e = rw (run_end s shift limit k room t e) (λ d. step-on s shift limit t o d)

-- ---- a whole run, by its checks
module _ (s : List ℕ) (shift : ℕ) where
  as_run : checks s shift ≡ (Ok tt) → (t : Tokenizer) → boundary s t.at ≡ true → (limit room : ℕ) → whole_run s shift limit room t ≡ run s shift limit room t
  unfolding whole_run_with
  as_run c t b limit room = rw (c, b)

  as_off : checks s shift ≡ (Ok tt) → (t : Tokenizer) → boundary s t.at ≡ false → (limit room : ℕ) → whole_run s shift limit room t ≡ stopped (Refused (refusal BadRecord 0)) t
  unfolding whole_run_with
  as_off c t b limit room = rw (c, b)

  as_none : (r : Refusal) → checks s shift ≡ Err r → (t : Tokenizer) → (limit room : ℕ) → whole_run s shift limit room t ≡ stopped (Refused r) t
  unfolding whole_run_with
  as_none r c t limit room = rw c

-- THE THEOREM. A run that leaves its tokenizer running was stopped by 14 or 15. Its tokens, and then those of the run from that tokenizer
-- with any other room and a limit at least as high, are the tokens of one run; and so are the end and the tokenizer afterwards.
module _ (s : List ℕ) (shift limit limit' room room' : ℕ) (t : Tokenizer) (h : limit ≤ limit') where
  abbrev One : Run → Type 0
  One r = whole_run s shift limit' (length r.tokens + room') t ≡ before r.tokens (whole_run s shift limit' room' r.state)

  one-stopped : (x : Outcome) → ((l m : ℕ) → whole_run s shift l m t ≡ stopped x t) → One (whole_run s shift limit room t)
  one-stopped x f = rw (f limit room) (f limit' (0 + room') ∙ sym (ap (before []) (f limit' room')))

  one-run : checks s shift ≡ (Ok tt) → boundary s t.at ≡ true → (run s shift limit room t).state.done ≡ Running → One (run s shift limit room t)
  unfolding run_with
  one-run c b d =
      let r = run s shift limit room t in
      let a = allowed s shift c in
      let o : On s t.at = record { within = boundary-within s t.at b; whole = boundary-whole s t.at a.valid b } in
      let p : On s r.state.at = stays-from s shift limit (suc (length s)) room t o d in
      let q : boundary s r.state.at ≡ true = bounded s r.state.at p.within p.whole in
      as_run s shift c t b limit' (length r.tokens + room')
      ∙ taken_up s shift limit limit' room room' t (ready_of s shift t c b) h d
      ∙ sym (ap (before r.tokens) (as_run s shift c r.state q limit' room'))

  pub resumed : (whole_run s shift limit room t).state.done ≡ Running → One (whole_run s shift limit room t)
  resumed = go (checks s shift) refl (boundary s t.at) refl
    where
      go : (c : Result Unit Refusal) → checks s shift ≡ c → (b : Bool) → boundary s t.at ≡ b → (whole_run s shift limit room t).state.done ≡ Running → One (whole_run s shift limit room t)
      go (Err r) c b e d = one-stopped (Refused r) (as_none s shift r c t)
      go (Ok tt) c false e d = one-stopped (Refused (refusal BadRecord 0)) (as_off s shift c t e)
      go (Ok tt) c true e d = let f = as_run s shift c t e limit room in rw f (one-run c e (rw f at d))
