-- 01: "14 and 15 leave the tokenizer as before that call". So a run that they stopped can be taken up again, with another list or a higher
-- limit, and goes on as if it had never stopped: `taken_up`.
use Prim.Native.Nat.{ℕ, zero, suc, ◌+◌, ◌-◌, ◌≤◌, ◌<◌}
use native.Mathlib.Omega.{arith}
use Rattle.std.specs.Prelude.{Bool, true, false, List, [], ◌∷◌, ◌++◌, ltb}
use Rattle.std.proofs.Math.Path.{◌≡◌, refl, sym, ap}
use Rattle.std.proofs.Common.{◌∙◌, lt-ltb, le-ltb, ltb-false}
use Rattle.std.proofs.Math.ListN.{length}
use Rattle.record.specs.Records.{refusal}
use Rattle.record.specs.declared.Code.TheVariants.{NoRoom}
use Rattle.record.specs.declared.Reading.{Reading}
use Rattle.record.specs.declared.Token.{Token}
use Rattle.scan.specs.Far.{short}
use Rattle.scan.specs.Until.{left}
use Rattle.reading.proofs.AnyCall.{turn_end, turn_error, turn_full, turn_got}
use Rattle.reading.proofs.Ledger.{runs_out}
use Rattle.reading.specs.Next.{next}
use Rattle.reading.specs.Run.{Run, also, done_by, run, run_from_with, run_with, shift_what, step_by, step_in_with, step_with}
use Rattle.reading.proofs.Story.{again_end, again_error, tell}
use Rattle.reading.specs.declared.Call.{Call}
use Rattle.reading.specs.declared.Outcome.{Outcome}
use Rattle.reading.specs.declared.Outcome.TheVariants.{Ended, Refused, Running}
use Rattle.reading.specs.declared.Stepped.{Stepped}
use Rattle.reading.specs.declared.Tokenizer.{Tokenizer}
use Rattle.reading.specs.declared.What.{What}
use Rattle.reading.specs.declared.What.TheVariants.{End, Error, Got}
use Rattle.run.specs.Room.{Ready}
use Rattle.run.specs.Steps.{got_end, got_error}

-- the tokens ts before those of a run
abbrev pub before : List Token → Run → Run
before ts r = record { tokens = ts ++ r.tokens; how = r.how; state = r.state; last = r.last }

-- ---- a step that goes on, under a higher limit, and one that stops
module _ (call : Reading → List ℕ → ℕ → Call) (s : List ℕ) (shift limit limit' : ℕ) (h : limit ≤ limit') (t : Tokenizer) where
  by_higher : (x : Call) (y : Token) → (step_by shift limit t x).what ≡ Got y → step_by shift limit' t x ≡ step_by shift limit t x
  by_higher x y e = go (ltb limit (t.count + x.advances)) refl
    where
      go : (b : Bool) → ltb limit (t.count + x.advances) ≡ b → step_by shift limit' t x ≡ step_by shift limit t x
      go true q = got_error y _ (rw q at e)
      go false q = let l = ltb-false limit (t.count + x.advances) q in rw (q, le-ltb limit' (t.count + x.advances) (omega arith))

  in_higher : (d : Outcome) (y : Token) → (step_in_with call d s shift limit t).what ≡ Got y → step_in_with call d s shift limit' t ≡ step_in_with call d s shift limit t
  in_higher Running y e = by_higher (call t.reading (left s t.at) t.at) y e
  in_higher Ended y e = got_end y e
  in_higher (Refused z) y e = got_error y z e

  step_higher : (y : Token) → (step_with call s shift limit t).what ≡ Got y → step_with call s shift limit' t ≡ step_with call s shift limit t
  unfolding step_with
  step_higher y e = in_higher t.done y e

module _ (call : Reading → List ℕ → ℕ → Call) (s : List ℕ) (shift limit : ℕ) (t : Tokenizer) where
  -- a call that stops a run and leaves the tokenizer running leaves it as it was
  abbrev Stays : Stepped → Type 0
  Stays x = ((y : Token) → x.what ≡ Got y → ⊥) → x.next.done ≡ Running → x.next ≡ t

  by_done : (w : What) (c p n : ℕ) → ((y : Token) → shift_what shift w ≡ Got y → ⊥) → done_by (shift_what shift w) ≡ Running → ⊥
  by_done (Got y) c p n f d = f _ refl
  by_done (Error z) c p n f d = let w : ◌≡◌ {A = ℕ} 0 1 = cc in omega arith
  by_done End c p n f d = let w : ◌≡◌ {A = ℕ} 0 1 = cc in omega arith

  by_stays : (x : Call) → Stays (step_by shift limit t x)
  by_stays x f d = go (ltb limit (t.count + x.advances)) refl
    where
      go : (b : Bool) → ltb limit (t.count + x.advances) ≡ b → (step_by shift limit t x).next ≡ t
      go true q = rw q
      go false q =
          let f' : (y : Token) → shift_what shift x.what ≡ Got y → ⊥ = rw q at f in
          let d' : done_by (shift_what shift x.what) ≡ Running = rw q at d in
          absurd (by_done x.what 0 0 0 f' d')

  in_stays : (d : Outcome) → Stays (step_in_with call d s shift limit t)
  in_stays Running f e = by_stays (call t.reading (left s t.at) t.at) f e
  in_stays Ended f e = refl
  in_stays (Refused z) f e = refl

  step_stays : Stays (step_with call s shift limit t)
  unfolding step_with
  step_stays f e = in_stays t.done f e

-- ---- more calls than needed change nothing
module _ (call : Reading → List ℕ → ℕ → Call) (s : List ℕ) (shift limit : ℕ) where
  enough : (k j room : ℕ) (t : Tokenizer) → ((run_from_with call s shift limit k room t).how ≡ Running → ⊥) → run_from_with call s shift limit (k + j) room t ≡ run_from_with call s shift limit k room t
  unfolding run_from_with
  enough zero j room t f = absurd (f refl)
  enough (suc k) j room t f =
      let q : suc k + j ≡ suc (k + j) = omega arith in
      rw q (go (λ m u g. enough k j m u g) (step_with call s shift limit t).what refl)
    where
      Again : Type 0
      Again = (m : ℕ) (u : Tokenizer) → ((run_from_with call s shift limit k m u).how ≡ Running → ⊥) → run_from_with call s shift limit (k + j) m u ≡ run_from_with call s shift limit k m u

      some : Again → (y : Token) → (step_with call s shift limit t).what ≡ Got y → (b : Bool) → ltb 0 room ≡ b → run_from_with call s shift limit (suc (k + j)) room t ≡ run_from_with call s shift limit (suc k) room t
      some ih y e true b =
          let u = (step_with call s shift limit t).next in
          let g : (run_from_with call s shift limit k (room - 1) u).how ≡ Running → ⊥ = λ w. f (ap (λ (x : Run). x.how) (turn_got call s shift limit k room t y e b) ∙ w) in
          turn_got call s shift limit (k + j) room t y e b ∙ ap (also y) (ih (room - 1) u g) ∙ sym (turn_got call s shift limit k room t y e b)
      some ih y e false b = turn_full call s shift limit (k + j) room t y e b ∙ sym (turn_full call s shift limit k room t y e b)

      go : Again → (w : What) → (step_with call s shift limit t).what ≡ w → run_from_with call s shift limit (suc (k + j)) room t ≡ run_from_with call s shift limit (suc k) room t
      go ih (Got y) e = some ih y e (ltb 0 room) refl
      go ih (Error z) e = turn_error call s shift limit (k + j) room t z e ∙ sym (turn_error call s shift limit k room t z e)
      go ih End e = turn_end call s shift limit (k + j) room t e ∙ sym (turn_end call s shift limit k room t e)

-- ---- the run with the higher limit and the longer list, along the run that was stopped
module _ (call : Reading → List ℕ → ℕ → Call) (s : List ℕ) (shift limit limit' : ℕ) (h : limit ≤ limit') (room' : ℕ) where
  abbrev Along : ℕ → Tokenizer → Run → Type 0
  Along k t r = run_from_with call s shift limit' k (length r.tokens + room') t ≡ before r.tokens (run_from_with call s shift limit' (k - length r.tokens) room' r.state)

  at_once : (k : ℕ) (t u : Tokenizer) (how : Outcome) (g : ℕ) → u ≡ t → Along k t (record { tokens = []; how = how; state = u; last = g })
  at_once k t u how g e =
      let z : k - 0 ≡ k = omega arith in
      let w : 0 + room' ≡ room' = omega arith in
      rw (e, z, w)

  along : (k j room : ℕ) (t : Tokenizer) (r : Run) → run_from_with call s shift limit k room t ≡ r → r.state.done ≡ Running
      → ((run_from_with call s shift limit' j (length r.tokens + room') t).how ≡ Running → ⊥) → Along j t r
  unfolding run_from_with
  along zero j room t r e d f = rw (← e) (at_once j t t Running 0 refl)
  along (suc k) j room t r e d f = go (λ i m v r₁ a b c. along k i m v r₁ a b c) (step_with call s shift limit t).what refl
    where
      Again : Type 0
      Again = (i m : ℕ) (v : Tokenizer) (r₁ : Run) → run_from_with call s shift limit k m v ≡ r₁ → r₁.state.done ≡ Running → ((run_from_with call s shift limit' i (length r₁.tokens + room') v).how ≡ Running → ⊥) → Along i v r₁

      u : Tokenizer
      u = (step_with call s shift limit t).next

      stay : (how : Outcome) (g : ℕ) → r ≡ record { tokens = []; how = how; state = u; last = g } → ((y : Token) → (step_with call s shift limit t).what ≡ Got y → ⊥) → Along j t r
      stay how l q g = rw q (at_once j t u how l (step_stays call s shift limit t g (ap (λ (x : Run). x.state.done) (sym q) ∙ d)))

      more : Again → (y : Token) → (step_with call s shift limit t).what ≡ Got y → (i : ℕ) → j ≡ i → (r₁ : Run) → run_from_with call s shift limit k (room - 1) u ≡ r₁ → r ≡ also y r₁ → Along j t r
      more ih y w zero i r₁ e₁ q = absurd (f (rw i))
      more ih y w (suc i) q r₁ e₁ q₁ =
          let v = step_higher call s shift limit limit' h t y w in
          let w' : (step_with call s shift limit' t).what ≡ Got y = ap (λ (x : Stepped). x.what) v ∙ w in
          let l : length r.tokens ≡ suc (length r₁.tokens) = ap (λ (x : Run). length x.tokens) q₁ in
          let n : length r.tokens + room' - 1 ≡ length r₁.tokens + room' = omega arith in
          let g : run_from_with call s shift limit' (suc i) (length r.tokens + room') t ≡ also y (run_from_with call s shift limit' i (length r₁.tokens + room') u) =
          turn_got call s shift limit' i (length r.tokens + room') t y w' (lt-ltb 0 (length r.tokens + room') (omega arith))
          ∙ ap (λ (m : ℕ). also y (run_from_with call s shift limit' i m (step_with call s shift limit' t).next)) n
          ∙ ap (λ (x : Stepped). also y (run_from_with call s shift limit' i (length r₁.tokens + room') x.next)) v in
          let f₁ : (run_from_with call s shift limit' i (length r₁.tokens + room') u).how ≡ Running → ⊥ = λ z. f (rw q (ap (λ (x : Run). x.how) g ∙ z)) in
          let a = ih i (room - 1) u r₁ e₁ (ap (λ (x : Run). x.state.done) (sym q₁) ∙ d) f₁ in
          let m : i - length r₁.tokens ≡ suc i - suc (length r₁.tokens) = omega arith in
          rw q (g ∙ ap (also y) a ∙ rw (q₁, m))

      some : Again → (y : Token) → (step_with call s shift limit t).what ≡ Got y → (b : Bool) → ltb 0 room ≡ b → Along j t r
      some ih y w true b = more ih y w j refl (run_from_with call s shift limit k (room - 1) u) refl (sym e ∙ turn_got call s shift limit k room t y w b)
      some ih y w false b = rw (sym e ∙ turn_full call s shift limit k room t y w b) (at_once j t t (Refused (refusal NoRoom y.start)) 0 refl)

      go : Again → (w : What) → (step_with call s shift limit t).what ≡ w → Along j t r
      go ih (Got y) w = some ih y w (ltb 0 room) refl
      go ih (Error z) w = stay (Refused z) 0 (sym e ∙ turn_error call s shift limit k room t z w) (λ y g. got_error y z (sym w ∙ g))
      go ih End w = stay Ended _ (sym e ∙ turn_end call s shift limit k room t w) (λ y g. got_end y (sym w ∙ g))

-- ---- over any call: a run that leaves the tokenizer running is taken up, where the run that was never stopped does not lack calls
module _ (call : Reading → List ℕ → ℕ → Call) (s : List ℕ) (shift limit limit' room room' : ℕ) (t : Tokenizer) (h : limit ≤ limit') where
  pub taken_up_with : (run_with call s shift limit room t).state.done ≡ Running
      → ((run_with call s shift limit' (length (run_with call s shift limit room t).tokens + room') t).how ≡ Running → ⊥)
      → run_with call s shift limit' (length (run_with call s shift limit room t).tokens + room') t
      ≡ before (run_with call s shift limit room t).tokens (run_with call s shift limit' room' (run_with call s shift limit room t).state)
  unfolding run_with run_from_with
  taken_up_with d f =
      let r = run_with call s shift limit room t in
      let n = length r.tokens in
      let a = along call s shift limit limit' h room' (suc (length s)) (suc (length s)) room t r refl d f in
      let g : (run_from_with call s shift limit' (suc (length s) - n) room' r.state).how ≡ Running → ⊥ = λ z. f (ap (λ (x : Run). x.how) a ∙ z) in
      a ∙ ap (before r.tokens) (sym (enough call s shift limit' (suc (length s) - n) n room' r.state g) ∙ ap (λ (m : ℕ). run_from_with call s shift limit' m room' r.state) (all n (suc (length s) - n) refl g))
    where
      all : (n k : ℕ) → suc (length s) - n ≡ k → ((run_from_with call s shift limit' (suc (length s) - n) room' (run_with call s shift limit room t).state).how ≡ Running → ⊥)
          → suc (length s) - n + n ≡ suc (length s)
      all n zero e g = absurd (g (rw (e, run_from_with)))
      all n (suc k) e g = omega arith

-- ---- a run never lacks calls
module _ (s : List ℕ) (shift limit room : ℕ) (t : Tokenizer) (r : Ready s shift t) where
  never_by : (d : Outcome) → t.done ≡ d → (run s shift limit room t).how ≡ Running → ⊥
  unfolding run_with
  never_by Running d e = runs_out t.reading s shift (tell s shift limit (suc (length s)) room t d) (let n = short s t.at r.within in omega arith) e
  never_by Ended d e =
      let q : Ended ≡ Running = sym (ap (λ (x : Run). x.how) (again_end s shift limit room t d)) ∙ e in
      let z : ◌≡◌ {A = ℕ} 0 1 = cc in
      omega arith
  never_by (Refused f) d e =
      let q : Refused f ≡ Running = sym (ap (λ (x : Run). x.how) (again_error s shift limit room t f d)) ∙ e in
      let z : ◌≡◌ {A = ℕ} 0 1 = cc in
      omega arith

  pub never_running : (run s shift limit room t).how ≡ Running → ⊥
  never_running = never_by t.done refl

-- THE THEOREM. A run stopped by 14 or 15 leaves the tokenizer running. Its tokens, and then the run from that tokenizer with any other room
-- and a limit at least as high, are the run that was never stopped.
module _ (s : List ℕ) (shift limit limit' room room' : ℕ) (t : Tokenizer) (ready : Ready s shift t) (h : limit ≤ limit') where
  pub taken_up : (run s shift limit room t).state.done ≡ Running
      → run s shift limit' (length (run s shift limit room t).tokens + room') t
      ≡ before (run s shift limit room t).tokens (run s shift limit' room' (run s shift limit room t).state)
  taken_up d =
      taken_up_with next s shift limit limit' room room' t h d
      (never_running s shift limit' (length (run s shift limit room t).tokens + room') t ready)
