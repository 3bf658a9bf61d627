-- REPEATING. 01: "Once a run has answered an error or the end, further calls repeat it with the same count and place". Of `run::next` and of
-- `run::run`, one after the other in any order, with their checks, from any tokenizer.
use Rattle.std.specs.Prelude.{ℕ, false, true, List, ◌≡◌, refl, length, Ok}
use Rattle.std.proofs.Common.{arith, sym, ap, ◌∙◌}
use Rattle.record.specs.Checks.{checks}
use Rattle.record.specs.Codes.{Refuses}
use Rattle.record.specs.declared.Code.{Code}
use Rattle.record.specs.declared.Token.{Token}
use Rattle.reading.specs.Run.{done_by, step_with, stopped}
use Rattle.reading.proofs.Story.{again_end, again_error}
use Rattle.reading.specs.declared.Outcome.{Outcome}
use Rattle.reading.specs.declared.Outcome.TheVariants.{Ended, Refused, Running}
use Rattle.reading.specs.declared.Tokenizer.{Tokenizer}
use Rattle.reading.specs.declared.What.{What}
use Rattle.reading.specs.declared.What.TheVariants.{End, Error, Got}
use Rattle.run.specs.Checked.{next_token, next_token_with, ran_with, whole_run, whole_run_with}
use Rattle.run.specs.declared.Ran.{Ran}
use Rattle.ledger.specs.Codes.{is_error}
use Rattle.ledger.specs.Runs.{checks-other}
use Rattle.ledger.specs.Books.{held}
use Rattle.callers.specs.Boundaries.{next-boundary}
use Rattle.callers.specs.PublicCalls.{Nexts, RunsFrom, is_final}
use Rattle.callers.specs.Single.{Single, Stands, end_kept, error_kept, limited, off, read, refused, single}
use Rattle.callers.specs.Repeated.{Last, answers, counts, full, repeated}

-- an answer is kept for any shift that the checks let pass
pub other_shift : (s : List ℕ) (shift shift' : ℕ) (how : Outcome) (u : Tokenizer) → Stands s shift how u → checks s shift' ≡ (Ok tt) → Stands s shift' how u
other_shift s shift shift' how u k e = record { passed = e; on = k.on; is = k.is }

no : {A : Type 0} → false ≡ true → A
no e = let w : ◌≡◌ {A = ℕ} 0 1 = cc in absurd (omega arith)

-- ---- a call that answers an error or the end keeps it
pub next_settled : (s : List ℕ) (shift limit : ℕ) (t : Tokenizer) → is_final (done_by (next_token s shift limit t).what) ≡ true
    → Stands s shift (done_by (next_token s shift limit t).what) (next_token s shift limit t).next
next_settled s shift limit t f = go (single s shift limit t) (checks-other s shift)
  where
    go : Single s shift limit t (next_token s shift limit t) → Refuses (λ (c : Code). is_error c ≡ false) (checks s shift)
        → Stands s shift (done_by (next_token s shift limit t).what) (next_token s shift limit t).next
    go (refused z c e) h = no (sym (rw c at h.is) ∙ rw e at f)
    go (off c n e) h = no (rw e at f)
    go (error_kept z k e) h = rw e k
    go (end_kept k e) h = rw e k
    go (limited k l e) h = no (rw e at f)
    go (read k l e) h = record { passed = k.passed; on = next-boundary s shift limit t k.on; is = rw e }

-- and so does a run
pub run_settled : (s : List ℕ) (shift limit : ℕ) (t : Tokenizer) (before : List Token) (r : Ran) (after : List Token) → RunsFrom s shift limit t before r after
    → is_final r.how ≡ true → Stands s shift r.how r.state
run_settled s shift limit t before r after c f = let d = repeated s shift limit t before r after c in go d.reached d.last
  where
    go : (u : Tokenizer) → Last s shift limit (length before) u (length (held r after)) r.how r.state → Stands s shift r.how r.state
    go u (full y e l h q) = no (rw h at f)
    go u (answers g h q) = rw (h, q) (next_settled s shift limit u (rw h at f))

-- ---- what is kept is repeated, with any limit
module _ (s : List ℕ) (shift limit : ℕ) (how : Outcome) (u : Tokenizer) (f : is_final how ≡ true) (k : Stands s shift how u) where
  next-is : (d : Outcome) → u.done ≡ d → is_final d ≡ true → (done_by (next_token s shift limit u).what ≡ d) × ((next_token s shift limit u).next ≡ u)
  unfolding next_token_with step_with
  next-is Running d f = no f
  next-is Ended d f = rw (k.passed, k.on, d) (refl, refl)
  next-is (Refused z) d f = rw (k.passed, k.on, d) (refl, refl)

  run_is : (room : ℕ) (d : Outcome) → u.done ≡ d → is_final d ≡ true → whole_run s shift limit room u ≡ stopped d u
  unfolding whole_run_with
  run_is room Running d f = no f
  run_is room Ended d f = rw (k.passed, k.on) (again_end s shift limit room u d)
  run_is room (Refused z) d f = rw (k.passed, k.on) (again_error s shift limit room u z d)

  pub again_next : (r : What) (v : Tokenizer) → Nexts s shift limit u r v → (done_by r ≡ how) × (v ≡ u)
  again_next r v c = let h = next-is how k.is f in (ap (λ (w : What). done_by w) c.0 ∙ h.0, c.1 ∙ h.1)

  pub again_run : (before : List Token) (r : Ran) (after : List Token) → RunsFrom s shift limit u before r after
      → (r ≡ record { stored = 0; how = how; advances = u.count; state = u; last_depth = 0 }) × (after ≡ before)
  unfolding ran_with
  again_run before r after c =
      let h = run_is (length before) how k.is f in
      (c.0 ∙ rw (h, k.passed), c.1 ∙ rw h)

-- an answer that is kept is known from it
said_same : (w v : What) → is_final (done_by w) ≡ true → done_by v ≡ done_by w → v ≡ w
said_same (Got y) v f e = no f
said_same (Error z) (Got y) f e = let w : ◌≡◌ {A = ℕ} 0 1 = cc in absurd (omega arith)
said_same (Error z) (Error x) f e = let q : x ≡ z = cc in ap Error q
said_same (Error z) End f e = let w : ◌≡◌ {A = ℕ} 0 1 = cc in absurd (omega arith)
said_same End (Got y) f e = let w : ◌≡◌ {A = ℕ} 0 1 = cc in absurd (omega arith)
said_same End (Error x) f e = let w : ◌≡◌ {A = ℕ} 0 1 = cc in absurd (omega arith)
said_same End End f e = refl

-- ---- THE THEOREMS. After a call of `run::next` that answered an error of the reading or the end, with any further limit
module _ (s : List ℕ) (shift limit : ℕ) (t : Tokenizer) (r : What) (u : Tokenizer) (c : Nexts s shift limit t r u) (f : is_final (done_by r) ≡ true) (limit' : ℕ) where
  kept_next : Stands s shift (done_by r) u
  kept_next = rw (c.0, c.1) (next_settled s shift limit t (rw c.0 at f))

  -- the next call answers the same, with its place, and leaves the tokenizer, with its count, as it is
  pub next-then-next : (r' : What) (v : Tokenizer) → Nexts s shift limit' u r' v → (r' ≡ r) × (v ≡ u)
  next-then-next r' v d =
      let h = again_next s shift limit' (done_by r) u f kept_next r' v d in
      (said_same r r' f h.0, h.1)

  -- and so does a run, which stores nothing
  pub next-then-run : (before : List Token) (r' : Ran) (after : List Token) → RunsFrom s shift limit' u before r' after
      → (r' ≡ record { stored = 0; how = done_by r; advances = u.count; state = u; last_depth = 0 }) × (after ≡ before)
  next-then-run before r' after d = again_run s shift limit' (done_by r) u f kept_next before r' after d

-- After a run that answered an error of the reading or the end
module _ (s : List ℕ) (shift limit : ℕ) (t : Tokenizer) (before : List Token) (r : Ran) (after : List Token) (c : RunsFrom s shift limit t before r after) (f : is_final r.how ≡ true)
    (limit' : ℕ) where
  kept_run : Stands s shift r.how r.state
  kept_run = run_settled s shift limit t before r after c f

  -- the advances reported are the tokenizer's count
  counted : r.advances ≡ r.state.count
  counted = counts s shift limit t before r after c kept_run.passed

  pub run-then-next : (r' : What) (v : Tokenizer) → Nexts s shift limit' r.state r' v → (done_by r' ≡ r.how) × (v ≡ r.state)
  run-then-next r' v d = again_next s shift limit' r.how r.state f kept_run r' v d

  pub run-then-run : (before' : List Token) (r' : Ran) (after' : List Token) → RunsFrom s shift limit' r.state before' r' after'
      → (r' ≡ record { stored = 0; how = r.how; advances = r.advances; state = r.state; last_depth = 0 }) × (after' ≡ before')
  run-then-run before' r' after' d = rw counted (again_run s shift limit' r.how r.state f kept_run before' r' after' d)
