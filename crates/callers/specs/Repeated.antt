-- A RUN IS REPEATED CALLS. What `run::run` stores, answers and leaves is what `run::next` answers and leaves, called again and again.
use Prim.Native.Nat.{ℕ, zero, suc, ◌-◌, ◌≤◌}
use Rattle.std.proofs.Common.{arith, sym, ap, ◌∙◌, ltb-false, ltb-true, Result, Ok, Err}
use Rattle.std.specs.Prelude.{Bool, List, [], ◌∷◌, ◌≡◌, ltb, length}
use Rattle.std.proofs.Math.Bool.{true, false}
use Rattle.std.proofs.Math.Path.{refl}
use Rattle.utf8.specs.Utf8.{boundary}
use Rattle.record.specs.Checks.{checks}
use Rattle.record.specs.Records.{refusal}
use Rattle.record.specs.declared.Code.TheVariants.{BadRecord, NoRoom}
use Rattle.record.specs.declared.Refusal.{Refusal}
use Rattle.record.specs.declared.Token.{Token}
use Rattle.reading.specs.Run.{Run, also, done_by, run, run_from, run_from_with, run_with, step, stopped}
use Rattle.reading.proofs.Story.{run_end, run_error, run_full, run_got}
use Rattle.reading.specs.declared.Outcome.{Outcome}
use Rattle.reading.specs.declared.Outcome.TheVariants.{Ended, Refused, Running}
use Rattle.reading.specs.declared.Stepped.{Stepped}
use Rattle.reading.specs.declared.Tokenizer.{Tokenizer}
use Rattle.reading.specs.declared.What.{What}
use Rattle.reading.specs.declared.What.TheVariants.{End, Error, Got}
use Rattle.run.specs.Checked.{next_token, next_token_with, ran_with, run_if, whole_run, whole_run_with}
use Rattle.run.specs.Steps.{ready_of}
use Rattle.run.specs.TakenUp.{never_running}
use Rattle.run.specs.declared.Ran.{Ran}
use Rattle.ledger.specs.Books.{held}
use Rattle.ledger.specs.Order.{found}
use Rattle.callers.specs.Boundaries.{next-boundary}
use Rattle.callers.specs.PublicCalls.{RunsFrom}

-- Calls one after the other, each answering a token: from the tokenizer t the tokens ts, to the tokenizer u.
pub data Calls (s : List ℕ) (shift limit : ℕ) : Tokenizer → List Token → Tokenizer → Type 0 where
  none : {t : Tokenizer} → Calls s shift limit t [] t
  one : {t u : Tokenizer} {ts : List Token} (y : Token) → (next_token s shift limit t).what ≡ Got y → Calls s shift limit (next_token s shift limit t).next ts u
      → Calls s shift limit t (y ∷ ts) u

-- The call that stops a run, from the tokenizer u, after n tokens.
pub data Last (s : List ℕ) (shift limit room : ℕ) (u : Tokenizer) (n : ℕ) (how : Outcome) (state : Tokenizer) : Type 0 where
  -- 14: it yields a token and the list is full; the tokenizer is as before that call
  full : (y : Token) → (next_token s shift limit u).what ≡ Got y → n ≡ room → how ≡ Refused (refusal NoRoom y.start) → state ≡ u → Last s shift limit room u n how state
  -- any other answer, but a token, is the run's, and the tokenizer is as the call leaves it
  answers : ((y : Token) → (next_token s shift limit u).what ≡ Got y → ⊥) → how ≡ done_by (next_token s shift limit u).what → state ≡ (next_token s shift limit u).next
      → Last s shift limit room u n how state

-- A run from the tokenizer t, with room for so many tokens: the tokens ts, how it stopped, and the tokenizer afterwards.
pub record Told (s : List ℕ) (shift limit room : ℕ) (t : Tokenizer) (ts : List Token) (how : Outcome) (state : Tokenizer) : Type 0 where
  pub reached : Tokenizer
  pub fits : length ts ≤ room
  pub calls : Calls s shift limit t ts reached
  pub last : Last s shift limit room reached (length ts) how state

abbrev TellsOf : List ℕ → ℕ → ℕ → ℕ → Tokenizer → Run → Type 0
TellsOf s shift limit room t r = Told s shift limit room t r.tokens r.how r.state

no_got : (z : Refusal) (y : Token) → Error z ≡ Got y → ⊥
no_got z y e = let w : ◌≡◌ {A = ℕ} 0 1 = cc in omega arith

no_end : (y : Token) → End ≡ Got y → ⊥
no_end y e = let w : ◌≡◌ {A = ℕ} 0 1 = cc in omega arith

module _ (s : List ℕ) (shift limit : ℕ) where
  last_more : (room n : ℕ) (u : Tokenizer) (how : Outcome) (state : Tokenizer) → ltb 0 room ≡ true → Last s shift limit (room - 1) u n how state → Last s shift limit room u (suc n) how state
  last_more room n u how state b (full y e l h q) = let w = ltb-true 0 room b in full y e (omega arith) h q
  last_more room n u how state b (answers f h q) = answers f h q

  -- a call that answers no token
  at_once : (room : ℕ) (t u : Tokenizer) (w : What) (how : Outcome) (g : ℕ) → (next_token s shift limit t).what ≡ w → (next_token s shift limit t).next ≡ u → ((y : Token) → w ≡ Got y → ⊥) → how ≡ done_by w
      → TellsOf s shift limit room t (record { tokens = []; how = how; state = u; last = g })
  at_once room t u w how g e q f h = record { reached = t; fits = omega arith; calls = none; last = answers (λ y g. f y (sym e ∙ g)) (h ∙ ap (λ (x : What). done_by x) (sym e)) (sym q) }

  module _ (c : checks s shift ≡ (Ok tt)) where
    next-step : (t : Tokenizer) → boundary s t.at ≡ true → step s shift limit t ≡ next_token s shift limit t
    unfolding next_token_with
    next-step t b = rw (c, b)

    tells-from : (k room : ℕ) (t : Tokenizer) → boundary s t.at ≡ true → ((run_from s shift limit k room t).how ≡ Running → ⊥) → TellsOf s shift limit room t (run_from s shift limit k room t)
    unfolding run_from_with
    tells-from zero room t b f = absurd (f refl)
    tells-from (suc k) room t b f = go (λ m u. tells-from k m u) (step s shift limit t).what refl
      where
        Again : Type 0
        Again = (m : ℕ) (u : Tokenizer) → boundary s u.at ≡ true → ((run_from s shift limit k m u).how ≡ Running → ⊥) → TellsOf s shift limit m u (run_from s shift limit k m u)

        same : next_token s shift limit t ≡ step s shift limit t
        same = sym (next-step t b)

        some : Again → (y : Token) → (step s shift limit t).what ≡ Got y → (d : Bool) → ltb 0 room ≡ d → TellsOf s shift limit room t (run_from s shift limit (suc k) room t)
        some ih y e true q =
            let u = (next_token s shift limit t).next in
            let r = run_got s shift limit k room t y e q in
            let r' : run_from s shift limit (suc k) room t ≡ also y (run_from s shift limit k (room - 1) u) = rw same r in
            let h = ih (room - 1) u (next-boundary s shift limit t b) (λ w. f (ap (λ (x : Run). x.how) r' ∙ w)) in
            rw r'
            (record {
              reached = h.reached;
              fits = (let n = h.fits in let m = ltb-true 0 room q in omega arith);
              calls = one y (ap (λ (x : Stepped). x.what) same ∙ e) h.calls;
              last = last_more room _ h.reached _ _ q h.last;
            })
        some ih y e false q =
            let w = ltb-false 0 room q in
            rw (run_full s shift limit k room t y e q)
            (record { reached = t; fits = omega arith; calls = none; last = full y (ap (λ (x : Stepped). x.what) same ∙ e) (omega arith) refl refl })

        go : Again → (w : What) → (step s shift limit t).what ≡ w → TellsOf s shift limit room t (run_from s shift limit (suc k) room t)
        go ih (Got y) e = some ih y e (ltb 0 room) refl
        go ih (Error z) e =
            rw (run_error s shift limit k room t z e)
            (at_once room t _ (Error z) (Refused z) 0 (ap (λ (x : Stepped). x.what) same ∙ e) (ap (λ (x : Stepped). x.next) same) (no_got z) refl)
        go ih End e =
            rw (run_end s shift limit k room t e)
            (at_once room t _ End Ended (step s shift limit t).gap_depth (ap (λ (x : Stepped). x.what) same ∙ e) (ap (λ (x : Stepped). x.next) same) no_end refl)

  -- of every run, refused by the checks or read
  pub tells : (room : ℕ) (t : Tokenizer) → TellsOf s shift limit room t (whole_run s shift limit room t)
  unfolding whole_run_with run_with next_token_with
  tells room t = go (checks s shift) (boundary s t.at) refl refl
    where
      go : (c : Result Unit Refusal) (b : Bool) → checks s shift ≡ c → boundary s t.at ≡ b → TellsOf s shift limit room t (run_if (checks s shift) s shift limit room t)
      go (Err r) b e q = rw e (at_once room t t (Error r) (Refused r) 0 (rw e) (rw e) (no_got r) refl)
      go (Ok tt) false e q = rw (e, q) (at_once room t t (Error (refusal BadRecord 0)) (Refused (refusal BadRecord 0)) 0 (rw (e, q)) (rw (e, q)) (no_got (refusal BadRecord 0)) refl)
      go (Ok tt) true e q = rw (e, q) (tells-from e (suc (length s)) room t q (never_running s shift limit room t (ready_of s shift t e q)))

-- THE THEOREM. What a caller of `run::run` finds in the list, its answer and its tokenizer are those of repeated `run::next`.
pub repeated : (s : List ℕ) (shift limit : ℕ) (t : Tokenizer) (before : List Token) (r : Ran) (after : List Token) → RunsFrom s shift limit t before r after
    → Told s shift limit (length before) t (held r after) r.how r.state
unfolding ran_with
repeated s shift limit t before r after c =
    let h = tells s shift limit (length before) t in
    rw (found s shift limit before after t r c, ap (λ (x : Ran). x.how) c.0, ap (λ (x : Ran). x.state) c.0) h

-- where the checks pass, the advances that a run reports are its tokenizer's count
pub counts : (s : List ℕ) (shift limit : ℕ) (t : Tokenizer) (before : List Token) (r : Ran) (after : List Token) → RunsFrom s shift limit t before r after
    → checks s shift ≡ (Ok tt) → r.advances ≡ r.state.count
unfolding ran_with
counts s shift limit t before r after c p = ap (λ (x : Ran). x.advances) c.0 ∙ rw p (ap (λ (x : Ran). x.state.count) (sym c.0))

-- and there the run is the one that is read
pub whole_is : (s : List ℕ) (shift limit room : ℕ) (t : Tokenizer) → checks s shift ≡ (Ok tt) → boundary s t.at ≡ true → whole_run s shift limit room t ≡ run s shift limit room t
unfolding whole_run_with
whole_is s shift limit room t p b = rw (p, b)
