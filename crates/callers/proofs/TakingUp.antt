-- TAKING UP. A run of `run::run` that 14 or 15 stopped can be taken up, with another list and a limit at least as high: the two lists together hold what one run would have stored.
use Rattle.std.specs.Prelude.{ℕ, ◌+◌, ◌≤◌, false, ◌≡◌}
use Rattle.std.proofs.Common.{◌∙◌}
use Rattle.std.proofs.Math.Bool.{true}
use mathlib.Core.List.{List, [], ◌∷◌, ◌++◌}
use Rattle.std.proofs.Math.Path.{refl, sym, ap}
use Rattle.std.proofs.Math.ListN.{length}
use Rattle.record.specs.Checks.{checks}
use Rattle.record.specs.Codes.{Refuses, among, checks-refuse}
use Rattle.record.specs.declared.Code.{Code}
use Rattle.record.specs.declared.Token.{Token}
use Rattle.reading.specs.Run.{Run, done_by, run, shift_what}
use Rattle.reading.specs.declared.Outcome.TheVariants.{Running}
use Rattle.reading.specs.declared.Tokenizer.{Tokenizer}
use Rattle.run.specs.Checked.{next_token, ran_with, whole_run}
use Rattle.run.specs.Steps.{ready_of}
use Rattle.run.specs.TakenUp.{before, taken_up}
use Rattle.run.specs.declared.Ran.{Ran}
use Rattle.ledger.specs.Books.{held}
use Rattle.ledger.specs.Order.{found}
use Rattle.callers.specs.PublicCalls.{Kept, RunsFrom}
use Rattle.callers.specs.Cursors.{kept-boundary, reached-kept}
use Rattle.callers.specs.Single.{Single, Stands, call_of, end_kept, error_kept, limited, off, read, refused, single}
use Rattle.callers.specs.Repeated.{Last, answers, counts, full, repeated, whole_is}
use Rattle.callers.specs.Codes.{DoneBy, not_reading}
use Rattle.callers.proofs.Codes.{kept_done, read-not}
use Rattle.callers.specs.TakingUp.{Joined, apart, gets, halt_error, halted, is_halt, no}

-- ---- a call that stops a run by 14 or 15 leaves a tokenizer that reads on: the checks pass, the cursor is on a boundary, and it runs
module _ (s : List ℕ) (shift limit : ℕ) (u : Tokenizer) where
  -- 15: the limit
  halts : Kept s u → halted (done_by (next_token s shift limit u).what) ≡ true → Stands s shift Running u × ((next_token s shift limit u).next ≡ u)
  unfolding among
  halts k f = go (single s shift limit u) (checks-refuse (λ c. is_halt c ≡ false) refl refl refl s shift) (kept_done s k)
    where
      go : Single s shift limit u (next_token s shift limit u) → Refuses (λ (c : Code). is_halt c ≡ false) (checks s shift) → DoneBy u.done
          → Stands s shift Running u × ((next_token s shift limit u).next ≡ u)
      go (refused z c e) h d = no (sym (rw c at h.is) ∙ rw e at f)
      go (off c n e) h d = no (rw e at f)
      go (error_kept z v e) h d = absurd (not_reading (14 ∷ 15 ∷ []) apart z.code (rw v.is at d) (rw e at f))
      go (end_kept v e) h d = no (rw e at f)
      go (limited v l e) h d = (v, rw e)
      go (read v l e) h d =
          let g : halted (done_by (shift_what shift (call_of s u).what)) ≡ true = rw e at f in
          let x = halt_error (shift_what shift (call_of s u).what) g in
          absurd (read-not (14 ∷ 15 ∷ []) apart s shift u x.0 x.1 x.2)

-- ---- so a run stopped by 14 or 15 leaves a tokenizer that reads on
module _ (s : List ℕ) (shift limit : ℕ) (t : Tokenizer) (list : List Token) (r : Ran) (after : List Token)
    (kept : Kept s t) (first : RunsFrom s shift limit t list r after) (stopped : halted r.how ≡ true) where
  pub reads_on : Stands s shift Running r.state
  reads_on = let d = repeated s shift limit t list r after first in go d.reached (reached-kept s shift limit d.calls kept) d.last
    where
      go : (u : Tokenizer) → Kept s u → Last s shift limit (length list) u (length (held r after)) r.how r.state → Stands s shift Running r.state
      go u k (full y e l h q) = rw q (gets s shift limit u y e)
      go u k (answers f h q) = let g = halts s shift limit u k (rw h at stopped) in rw (q, g.1) g.0

-- THE THEOREM. A run was stopped by 14 or 15. A second run takes it up where it left the tokenizer, with another list and a limit at least as high. Then
-- the two lists hold together what one run with that limit and room for both holds; its answer, its count, its tokenizer and its last gap's depth are the second run's.
module _ (s : List ℕ) (shift limit limit' : ℕ) (t : Tokenizer) (list₁ list₂ list : List Token) (r₁ r₂ r : Ran) (after₁ after₂ after : List Token)
    (kept : Kept s t) (higher : limit ≤ limit') (room : length list ≡ r₁.stored + length list₂)
    (first : RunsFrom s shift limit t list₁ r₁ after₁) (second : RunsFrom s shift limit' r₁.state list₂ r₂ after₂) (one : RunsFrom s shift limit' t list r after) where
  pub joined : halted r₁.how ≡ true → Joined (held r₁ after₁) (held r₂ after₂) (held r after) r r₂
  unfolding ran_with
  joined stopped =
      let g = reads_on s shift limit t list₁ r₁ after₁ kept first stopped in
      let b = kept-boundary s shift kept g.passed in
      let w₁ = whole_is s shift limit (length list₁) t g.passed b in
      let w₂ = whole_is s shift limit' (length list₂) r₁.state g.passed g.on in
      let w = whole_is s shift limit' (length list) t g.passed b in
      let x = run s shift limit (length list₁) t in
      let st : r₁.state ≡ x.state = ap (λ (z : Ran). z.state) first.0 ∙ ap (λ (z : Run). z.state) w₁ in
      let n : r₁.stored ≡ length x.tokens = ap (λ (z : Ran). z.stored) first.0 ∙ ap (λ (z : Run). length z.tokens) w₁ in
      let d : x.state.done ≡ Running = ap (λ (z : Tokenizer). z.done) (sym st) ∙ g.is in
      let u = taken_up s shift limit limit' (length list₁) (length list₂) t (ready_of s shift t g.passed b) higher d in
      let v : whole_run s shift limit' (length list) t ≡ before x.tokens (whole_run s shift limit' (length list₂) r₁.state) = rw (w₂, w, st, room, n) u in
      let same : r.state ≡ r₂.state = ap (λ (z : Ran). z.state) one.0 ∙ ap (λ (z : Run). z.state) v ∙ sym (ap (λ (z : Ran). z.state) second.0) in
      record {
        records =
            found s shift limit' list after t r one ∙ ap (λ (z : Run). z.tokens) v
            ∙ ap (λ (ts : List Token). ts ++ (whole_run s shift limit' (length list₂) r₁.state).tokens) (sym (found s shift limit list₁ after₁ t r₁ first ∙ ap (λ (z : Run). z.tokens) w₁))
            ∙ ap (λ (ts : List Token). held r₁ after₁ ++ ts) (sym (found s shift limit' list₂ after₂ r₁.state r₂ second));
        answer = ap (λ (z : Ran). z.how) one.0 ∙ ap (λ (z : Run). z.how) v ∙ sym (ap (λ (z : Ran). z.how) second.0);
        count =
            counts s shift limit' t list r after one g.passed ∙ ap (λ (z : Tokenizer). z.count) same
            ∙ sym (counts s shift limit' r₁.state list₂ r₂ after₂ second g.passed);
        state = same;
        last = ap (λ (z : Ran). z.last_depth) one.0 ∙ ap (λ (z : Run). z.last) v ∙ sym (ap (λ (z : Ran). z.last_depth) second.0);
      }
