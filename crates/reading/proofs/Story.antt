-- A run as a story of calls: each token taken, and how it stopped.
use Prim.Native.Nat.{◌+◌, ◌-◌, suc, zero, ℕ}
use Rattle.std.proofs.Common.{arith, ◌∙◌, sym, Ok}
use Rattle.std.specs.Prelude.{Bool, List, [], ◌≡◌, ltb, length}
use Rattle.std.proofs.Math.Bool.{false, true}
use Rattle.std.proofs.Math.Path.{ap, refl}
use Rattle.record.specs.Records.{refusal}
use Rattle.record.specs.declared.Code.TheVariants.{NoRoom, WorkLimit}
use Rattle.record.specs.declared.Reading.{Reading}
use Rattle.record.specs.declared.Refusal.{Refusal}
use Rattle.record.specs.declared.Token.{Token}
use Rattle.scan.specs.Far.{Far}
use Rattle.scan.specs.Until.{left}
use Rattle.reading.proofs.AnyCall.{sticky_end, sticky_error, turn_end, turn_error, turn_full, turn_got}
use Rattle.reading.proofs.CallLaw.{Laid, LaidIn, Placed, next-laid}
use Rattle.reading.specs.Gaps.{gap}
use Rattle.reading.specs.Next.{next}
use Rattle.reading.specs.Run.{Run, also, done_by, ending, run, run_from, run_from_with, shift_token, shift_what, step, step_by, step_with, stopped}
use Rattle.reading.specs.declared.Call.{Call}
use Rattle.reading.specs.declared.Outcome.{Outcome}
use Rattle.reading.specs.declared.Outcome.TheVariants.{Ended, Refused, Running}
use Rattle.reading.specs.declared.Stepped.{Stepped}
use Rattle.reading.specs.declared.Tokenizer.{Tokenizer}
use Rattle.reading.specs.declared.What.{What}
use Rattle.reading.specs.declared.What.TheVariants.{End, Error, Got}

-- at most k calls in a reading, from the place at and the count count, with the answer r
pub data Story (rd : Reading) (s : List ℕ) (shift : ℕ) : ℕ → ℕ → ℕ → Run → Type 0 where
  -- 14, 15, or no call left: the tokenizer is as before, and goes on
  halted : {k at count : ℕ} {r : Run} → r.tokens ≡ [] → r.state.count ≡ count → (r.how ≡ Ended → ⊥) → (r.how ≡ Running → k ≡ 0)
      → r.state.done ≡ Running → Story rd s shift k at count r
  -- an error of the reading
  failed : {k at count : ℕ} {r : Run} (p n : ℕ) → Far (left s at) at n p → r.tokens ≡ [] → r.state.count ≡ count + n → (r.how ≡ Ended → ⊥)
      → (r.how ≡ Running → ⊥) → r.state.done ≡ r.how → Story rd s shift k at count r
  -- the end
  finished : {k at count : ℕ} {r : Run} (p : ℕ) → gap (left s at) at ≡ Ok (p, length (left s at)) → r.tokens ≡ []
      → r.state.count ≡ count + length (left s at) → (r.how ≡ Running → ⊥) → r.state.done ≡ r.how → Story rd s shift k at count r
  -- a token t, and the rest of the run
  took : {k at count : ℕ} {r : Run} (t : Token) (p n : ℕ) (r' : Run) → Placed rd (left s at) at t p n → Story rd s shift k p (count + n) r'
      → r ≡ also (shift_token shift t) r' → Story rd s shift (suc k) at count r

not-ended : (z : Refusal) (h : Outcome) → h ≡ Refused z → h ≡ Ended → ⊥
not-ended z h e q = let w : ◌≡◌ {A = ℕ} 0 1 = cc in omega arith

not-running : (z : Refusal) (h : Outcome) → h ≡ Refused z → h ≡ Running → ⊥
not-running z h e q = let w : ◌≡◌ {A = ℕ} 0 1 = cc in omega arith

end-not-running : (h : Outcome) → h ≡ Ended → h ≡ Running → ⊥
end-not-running h e q = let w : ◌≡◌ {A = ℕ} 0 1 = cc in omega arith

run-not-ended : (h : Outcome) → h ≡ Running → h ≡ Ended → ⊥
run-not-ended h e q = let w : ◌≡◌ {A = ℕ} 0 1 = cc in omega arith

module _ (s : List ℕ) (shift limit : ℕ) where
  -- a turn of the run, by what the step answers
  module _ (k room : ℕ) (t : Tokenizer) where
    pub run_got : (y : Token) → (step s shift limit t).what ≡ Got y → ltb 0 room ≡ true
        → run_from s shift limit (suc k) room t ≡ also y (run_from s shift limit k (room - 1) (step s shift limit t).next)
    run_got = turn_got next s shift limit k room t

    pub run_full : (y : Token) → (step s shift limit t).what ≡ Got y → ltb 0 room ≡ false
        → run_from s shift limit (suc k) room t ≡ stopped (Refused (refusal NoRoom y.start)) t
    run_full = turn_full next s shift limit k room t

    pub run_error : (z : Refusal) → (step s shift limit t).what ≡ Error z → run_from s shift limit (suc k) room t ≡ stopped (Refused z) (step s shift limit t).next
    run_error = turn_error next s shift limit k room t

    pub run_end : (step s shift limit t).what ≡ End → run_from s shift limit (suc k) room t ≡ ending (step s shift limit t).gap_depth (step s shift limit t).next
    run_end = turn_end next s shift limit k room t

  -- the step of a tokenizer that is running
  unfoldable pub call : Tokenizer → Call
  call t = next t.reading (left s t.at) t.at

  module _ (t : Tokenizer) (d : t.done ≡ Running) where
    step_is : step s shift limit t ≡ step_by shift limit t (call t)
    unfolding step_with call
    step_is = rw d

    pub step-over : ltb limit (t.count + (call t).advances) ≡ true → step s shift limit t ≡ record { what = Error (refusal WorkLimit (t.at + shift)); next = t; gap_depth = 0 }
    step-over q = step_is ∙ rw q

    pub step-on : ltb limit (t.count + (call t).advances) ≡ false
        → step s shift limit t ≡ record { what = shift_what shift (call t).what; next = record { at = (call t).at; count = t.count + (call t).advances; done = done_by (shift_what shift (call t).what); reading = t.reading }; gap_depth = (call t).gap_depth }
    step-on q = step_is ∙ rw q

    laid : Laid t.reading (left s t.at) t.at (call t)
    unfolding call
    laid = next-laid t.reading (left s t.at) t.at

  -- a run that stopped, at the tokenizer u
  module _ (rd : Reading) (k at n : ℕ) (r : Run) (z : Refusal) (u : Tokenizer) (e : r ≡ stopped (Refused z) u) where
    as_halted : u.count ≡ n → u.done ≡ Running → Story rd s shift k at n r
    as_halted c d =
        halted (ap (λ (x : Run). x.tokens) e) (ap (λ (x : Run). x.state.count) e ∙ c) (not-ended z r.how (ap (λ (x : Run). x.how) e))
        (λ q. absurd (not-running z r.how (ap (λ (x : Run). x.how) e) q))
        (ap (λ (x : Run). x.state.done) e ∙ d)

    as_failed : (p m : ℕ) → Far (left s at) at m p → u.count ≡ n + m → u.done ≡ Refused z → Story rd s shift k at n r
    as_failed p m f c d =
        failed p m f (ap (λ (x : Run). x.tokens) e) (ap (λ (x : Run). x.state.count) e ∙ c) (not-ended z r.how (ap (λ (x : Run). x.how) e))
        (not-running z r.how (ap (λ (x : Run). x.how) e))
        (ap (λ (x : Run). x.state.done) e ∙ d ∙ sym (ap (λ (x : Run). x.how) e))

  as_finished : (rd : Reading) (k at n : ℕ) (r : Run) (g : ℕ) (u : Tokenizer) → r ≡ ending g u → (p : ℕ) → gap (left s at) at ≡ Ok (p, length (left s at))
      → u.count ≡ n + length (left s at) → u.done ≡ Ended → Story rd s shift k at n r
  as_finished rd k at n r g u e p f c d =
      finished p f (ap (λ (x : Run). x.tokens) e) (ap (λ (x : Run). x.state.count) e ∙ c) (end-not-running r.how (ap (λ (x : Run). x.how) e))
      (ap (λ (x : Run). x.state.done) e ∙ d ∙ sym (ap (λ (x : Run). x.how) e))

  module _ (k room : ℕ) (t : Tokenizer) (d : t.done ≡ Running)
      (again : (m : ℕ) (u : Tokenizer) → u.done ≡ Running → Story u.reading s shift k u.at u.count (run_from s shift limit k m u)) where
    -- the tokenizer after the call
    after_call : What → Tokenizer
    after_call w = record { at = (call t).at; count = t.count + (call t).advances; done = done_by (shift_what shift w); reading = t.reading }

    module _ (q : ltb limit (t.count + (call t).advances) ≡ false) where
      what_is : (w : What) → (call t).what ≡ w → (step s shift limit t).what ≡ shift_what shift w
      what_is w v = ap (λ (x : Stepped). x.what) (step-on t d q) ∙ ap (shift_what shift) v

      next-is : (w : What) → (call t).what ≡ w → (step s shift limit t).next ≡ after_call w
      unfolding after_call
      next-is w v = ap (λ (x : Stepped). x.next) (step-on t d q) ∙ rw v

      tell_got : (y : Token) → (call t).what ≡ Got y → Placed t.reading (left s t.at) t.at y (call t).at (call t).advances → (b : Bool) → ltb 0 room ≡ b
          → Story t.reading s shift (suc k) t.at t.count (run_from s shift limit (suc k) room t)
      unfolding after_call
      tell_got y v h true z =
          took y (call t).at (call t).advances (run_from s shift limit k (room - 1) (after_call (Got y))) h (again (room - 1) (after_call (Got y)) refl)
          (run_got k room t (shift_token shift y) (what_is (Got y) v) z
          ∙ ap (λ (u : Tokenizer). also (shift_token shift y) (run_from s shift limit k (room - 1) u)) (next-is (Got y) v))
      tell_got y v h false z =
          as_halted t.reading (suc k) t.at t.count _ _ t (run_full k room t (shift_token shift y) (what_is (Got y) v) z) refl d

      tell-on : (w : What) → (call t).what ≡ w → LaidIn t.reading (left s t.at) t.at (call t).at (call t).advances w
          → Story t.reading s shift (suc k) t.at t.count (run_from s shift limit (suc k) room t)
      unfolding after_call
      tell-on (Got y) v h = tell_got y v h (ltb 0 room) refl
      tell-on (Error z) v h =
          as_failed t.reading (suc k) t.at t.count _ _ (step s shift limit t).next (run_error k room t _ (what_is (Error z) v)) (call t).at (call t).advances h
          (ap (λ (u : Tokenizer). u.count) (next-is (Error z) v))
          (ap (λ (u : Tokenizer). u.done) (next-is (Error z) v))
      tell-on End v h =
          as_finished t.reading (suc k) t.at t.count _ _ (step s shift limit t).next (run_end k room t (what_is End v)) (call t).at (rw h.1 at h.0)
          (ap (λ (u : Tokenizer). u.count) (next-is End v) ∙ ap (λ (j : ℕ). t.count + j) h.1)
          (ap (λ (u : Tokenizer). u.done) (next-is End v))

    tell-suc : (b : Bool) → ltb limit (t.count + (call t).advances) ≡ b → Story t.reading s shift (suc k) t.at t.count (run_from s shift limit (suc k) room t)
    tell-suc true q =
        let e = step-over t d q in
        as_halted t.reading (suc k) t.at t.count _ _ (step s shift limit t).next (run_error k room t _ (ap (λ (x : Stepped). x.what) e)) (ap (λ (x : Stepped). x.next.count) e)
        (ap (λ (x : Stepped). x.next.done) e ∙ d)
    tell-suc false q = tell-on q (call t).what refl (laid t d).is

  pub tell : (k room : ℕ) (t : Tokenizer) → t.done ≡ Running → Story t.reading s shift k t.at t.count (run_from s shift limit k room t)
  unfolding run_from_with
  tell zero room t d = halted refl refl (run-not-ended Running refl) (λ _. refl) d
  tell (suc k) room t d = tell-suc k room t d (λ m u. tell k m u) (ltb limit (t.count + (call t).advances)) refl

-- a tokenizer that has answered the end or an error repeats it, and stays as it is
module _ (s : List ℕ) (shift limit room : ℕ) (t : Tokenizer) where
  pub again_end : t.done ≡ Ended → run s shift limit room t ≡ stopped Ended t
  again_end = sticky_end next s shift limit room t

  pub again_error : (z : Refusal) → t.done ≡ Refused z → run s shift limit room t ≡ stopped (Refused z) t
  again_error = sticky_error next s shift limit room t
