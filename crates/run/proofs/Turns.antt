-- The pure side of the run's loop: what holds at each turn, with no memory in it.
--     start      it holds of the first pending token and the list as it was lent
--     within     where a token is going, there is room for it
--     turn       after the token is stored and the next one read it holds again, at a smaller bound
--     end        where no token is going, answer and list are what the contract says
use Rattle.std.specs.Prelude.{Result, Ok, Err}
use Prim.Native.Nat.{ℕ, zero, suc, ◌+◌, ◌-◌, ◌<◌, ◌≤◌}
use native.Mathlib.Omega.{arith}
use mathlib.Core.Bool.{Bool, true, false, cond}
use mathlib.Core.List.{List, [], ◌∷◌, ◌++◌, append-nil}
use mathlib.Core.Path.{◌≡◌, refl, sym, ap, subst, ◌∙◌}
use lib.Dec.{ltb}
use lib.ListN.{length, take, drop, get_or, set, length-append}
use lib.Seq.{length_front, length-take-le, drop-cons, append_snoc, set-append_seam}
use borrow.Author.Tests.{lt-ltb, le-ltb, ltb-true, ltb-false}
use Rattle.utf8.specs.Utf8.{boundary}
use Rattle.record.specs.Checks.{checks}
use Rattle.record.specs.Records.{over, refusal}
use Rattle.record.specs.declared.Code.TheVariants.{BadRecord, NoRoom}
use Rattle.record.specs.declared.Token.{Token}
use Rattle.reading.specs.Run.{Run, also, run, run_from, run_from_with, run_with, step, stopped}
use Rattle.reading.proofs.Story.{run_end, run_error, run_full, run_got}
use Rattle.reading.specs.declared.Outcome.{Outcome}
use Rattle.reading.specs.declared.Outcome.TheVariants.{Refused, Running}
use Rattle.reading.specs.declared.Tokenizer.{Tokenizer}
use Rattle.reading.specs.declared.What.{What}
use Rattle.reading.specs.declared.What.TheVariants.{End, Error, Got}
use Rattle.run.specs.Checked.{count_if, ran_of, ran_with, run_if, whole_run, whole_run_with}
use Rattle.run.specs.Pending.{advance_of, begin_if, begin_of, goes, halted, pend_by, pend_of, is_going, taken}
use Rattle.run.specs.Room.{Onward}
use Rattle.run.specs.Steps.{ready_of, step_ready, step-runs}
use Rattle.run.specs.TakenUp.{before, never_running}
use Rattle.run.specs.declared.Pending.{Pending}
use Rattle.record.specs.declared.Refusal.{Refusal}

no : {X : Type 0} → false ≡ true → X
no e = let z : ◌≡◌ {A = ℕ} 0 1 = cc in absurd (omega arith)

-- ---- what is left of a run, from a pending token
module _ (s : List ℕ) (shift limit room : ℕ) where
  abbrev pub onward_by : Bool → ℕ → Pending → Run
  onward_by true k p = also (taken p) (run_from s shift limit k (room - (p.ran.stored + 1)) p.ran.state)
  onward_by false k p = record { tokens = []; how = p.ran.how; state = p.ran.state; last = p.ran.last_depth }

  unfoldable pub onward : ℕ → Pending → Run
  onward k p = onward_by (is_going p) k p

  -- of a pending token: what stands in it
  module _ (n : ℕ) (t : Tokenizer) where
    got_run : (k : ℕ) (x : Token) (u : Tokenizer) (b : Bool) → ltb n room ≡ b
        → (ltb 0 (room - n) ≡ true → run_from s shift limit (suc k) (room - n) t ≡ also x (run_from s shift limit k (room - n - 1) u))
        → (ltb 0 (room - n) ≡ false → run_from s shift limit (suc k) (room - n) t ≡ stopped (Refused (refusal NoRoom x.start)) t)
        → run_from s shift limit (suc k) (room - n) t ≡ onward k (cond b (goes n x u) (halted n (Refused (refusal NoRoom x.start)) t.count t))
    unfolding onward
    got_run k x u true q f g =
        let l = ltb-true n room q in
        let j : room - n - 1 ≡ room - (n + 1) = omega arith in
        f (lt-ltb 0 (room - n) (omega arith)) ∙ ap (λ (i : ℕ). also x (run_from s shift limit k i u)) j
    got_run k x u false q f g = let l = ltb-false n room q in g (le-ltb 0 (room - n) (omega arith))

    by_run : (k : ℕ) (w : What) → (step s shift limit t).what ≡ w
        → run_from s shift limit (suc k) (room - n) t ≡ onward k (pend_by w room n t (step s shift limit t).next (step s shift limit t).gap_depth)
    unfolding onward
    by_run k (Got x) e = got_run k x (step s shift limit t).next (ltb n room) refl (λ q. run_got s shift limit k (room - n) t x e q) (λ q. run_full s shift limit k (room - n) t x e q)
    by_run k (Error r) e = run_error s shift limit k (room - n) t r e
    by_run k End e = run_end s shift limit k (room - n) t e

    pend_run : (k : ℕ) → run_from s shift limit (suc k) (room - n) t ≡ onward k (pend_of s shift limit room n t)
    unfolding pend_of
    pend_run k = by_run k (step s shift limit t).what refl

    -- where a token is going there is room, and the tokenizer is the step's
    abbrev Goes : Tokenizer → Pending → Type 0
    Goes u p = (p.ran.stored ≡ n) × (p.ran.advances ≡ p.ran.state.count) × (is_going p ≡ true → (n < room) × (p.ran.state ≡ u))

    got_goes : (x : Token) (u : Tokenizer) (how : Outcome) (b : Bool) → ltb n room ≡ b → Goes u (cond b (goes n x u) (halted n how t.count t))
    got_goes x u how true q = (refl, refl, λ e. (ltb-true n room q, refl))
    got_goes x u how false q = (refl, refl, λ e. no e)

    by_goes : (w : What) (u : Tokenizer) (g : ℕ) → Goes u (pend_by w room n t u g)
    by_goes (Got x) u g = got_goes x u (Refused (refusal NoRoom x.start)) (ltb n room) refl
    by_goes (Error r) u g = (refl, refl, λ e. no e)
    by_goes End u g = (refl, refl, λ e. no e)

    pub pend_goes : Goes (step s shift limit t).next (pend_of s shift limit room n t)
    unfolding pend_of
    pend_goes = by_goes (step s shift limit t).what (step s shift limit t).next (step s shift limit t).gap_depth

    -- .. and it runs
    by_runs : (w : What) → (step s shift limit t).what ≡ w → is_going (pend_by w room n t (step s shift limit t).next (step s shift limit t).gap_depth) ≡ true → (step s shift limit t).next.done ≡ Running
    by_runs (Got y) e g = step-runs s shift limit t y e
    by_runs (Error r) e g = no g
    by_runs End e g = no g

    pub pend_runs : is_going (pend_of s shift limit room n t) ≡ true → (pend_of s shift limit room n t).ran.state.done ≡ Running
    unfolding pend_of
    pend_runs g = ap (λ (u : Tokenizer). u.done) (pend_goes.2 g).1 ∙ by_runs (step s shift limit t).what refl g

-- ---- what holds at a turn: the tokens `done` are stored, and the pending token p leads to the rest of the run
pub record Core (s : List ℕ) (shift limit room : ℕ) (t₀ : Tokenizer) (k : ℕ) (p : Pending) (done : List Token) : Type 0 where
  pub stored_is : p.ran.stored ≡ length done
  pub fits : length done ≤ room
  pub run_is : before done (onward s shift limit room k p) ≡ whole_run s shift limit room t₀
  pub counted : p.ran.advances ≡ count_if (checks s shift) p.ran.state.count
  pub passed : is_going p ≡ true → checks s shift ≡ Ok tt
  pub going_on : is_going p ≡ true → Onward s shift room p
  pub ends : (whole_run s shift limit room t₀).how ≡ Running → ⊥

module _ (s : List ℕ) (shift limit room : ℕ) (t₀ : Tokenizer) where
  begun : (c : Result Unit Refusal) → checks s shift ≡ c → (b : Bool) → boundary s t₀.at ≡ b → Core s shift limit room t₀ (length s) (begin_of s shift limit room t₀) []
  unfolding begin_of whole_run_with onward run_with
  begun (Ok tt) c true b =
      let r = ready_of s shift t₀ c b in
      let z : room - 0 ≡ room = omega arith in
      let g = pend_goes s shift limit room 0 t₀ in
      let e : begin_if (checks s shift) s shift limit room t₀ ≡ pend_of s shift limit room 0 t₀ = rw (c, b) in
      let f : run_if (checks s shift) s shift limit room t₀ ≡ run s shift limit room t₀ = rw (c, b) in
      record {
        stored_is = ap (λ (p : Pending). p.ran.stored) e ∙ g.0;
        fits = omega arith;
        run_is = ap (λ (p : Pending). onward s shift limit room (length s) p) e ∙ sym (pend_run s shift limit room 0 t₀ (length s)) ∙ ap (λ (i : ℕ). run_from s shift limit (suc (length s)) i t₀) z ∙ sym f;
        counted = rw (e, c) g.1;
        passed = λ _. c;
        going_on = λ h. let h' : is_going (pend_of s shift limit room 0 t₀) ≡ true = rw e at h in
            record { ready = rw (e, (g.2 h').1) (step_ready s shift limit t₀ r); space = rw (e, g.0) (g.2 h').0 };
        ends = λ h. never_running s shift limit room t₀ r (rw f at h);
      }
  begun (Ok tt) c false b =
      let e : begin_if (checks s shift) s shift limit room t₀ ≡ halted 0 (Refused (refusal BadRecord 0)) t₀.count t₀ = rw (c, b) in
      let f : run_if (checks s shift) s shift limit room t₀ ≡ stopped (Refused (refusal BadRecord 0)) t₀ = rw (c, b) in
      record {
        stored_is = rw e;
        fits = omega arith;
        run_is = rw (e, f);
        counted = rw (e, c);
        passed = λ _. c;
        going_on = λ h. no (rw e at h);
        ends = λ h. let q : Refused (refusal BadRecord 0) ≡ Running = rw f at h in let z : ◌≡◌ {A = ℕ} 0 1 = cc in omega arith;
      }
  begun (Err x) c b e₀ =
      let e : begin_if (checks s shift) s shift limit room t₀ ≡ halted 0 (Refused x) 0 t₀ = rw c in
      let f : run_if (checks s shift) s shift limit room t₀ ≡ stopped (Refused x) t₀ = rw c in
      record {
        stored_is = rw e;
        fits = omega arith;
        run_is = rw (e, f);
        counted = rw (e, c);
        passed = λ h. no (rw e at h);
        going_on = λ h. no (rw e at h);
        ends = λ h. let q : Refused x ≡ Running = rw f at h in let z : ◌≡◌ {A = ℕ} 0 1 = cc in omega arith;
      }

  pub core_start : Core s shift limit room t₀ (length s) (begin_of s shift limit room t₀) []
  core_start = begun (checks s shift) refl (boundary s t₀.at) refl

  one-longer : (ds : List Token) (a : Token) → length ds + 1 ≡ length (ds ++ (a ∷ []))
  one-longer ds a = sym (length-append ds (a ∷ []))

  pub record CoreNext (k : ℕ) (p : Pending) (done : List Token) : Type 0 where
    pub less : ℕ
    pub below : less < k
    pub again : Core s shift limit room t₀ less (advance_of s shift limit room p) (done ++ (taken p ∷ []))

  pub core_turn : (k : ℕ) (p : Pending) (done : List Token) → Core s shift limit room t₀ k p done → is_going p ≡ true → CoreNext k p done
  unfolding onward run_from_with advance_of
  core_turn zero p d i e =
      let h : before d (onward_by s shift limit room true 0 p) ≡ whole_run s shift limit room t₀ = rw e at i.run_is in
      absurd (i.ends (sym (ap (λ (r : Run). r.how) h)))
  core_turn (suc k) p d i e =
      let n = p.ran.stored in
      let g = pend_goes s shift limit room (n + 1) p.ran.state in
      let h : before d (onward_by s shift limit room true (suc k) p) ≡ whole_run s shift limit room t₀ = rw e at i.run_is in
      let m : n + 1 ≡ length (d ++ (taken p ∷ [])) = ap (λ (j : ℕ). j + 1) i.stored_is ∙ one-longer d (taken p) in
      let o = i.going_on e in
      let l = o.space in
      record {
        less = k;
        below = omega arith;
        again = record {
          stored_is = g.0 ∙ m;
          fits = subst (λ (j : ℕ). j ≤ room) m (omega arith);
          run_is = ap (λ (r : Run). before (d ++ (taken p ∷ [])) r) (sym (pend_run s shift limit room (n + 1) p.ran.state k)) ∙ shuffle d (run_from s shift limit (suc k) (room - (n + 1)) p.ran.state) ∙ h;
          counted = rw (i.passed e) g.1;
          passed = λ _. i.passed e;
          going_on = λ q. record { ready = rw (g.2 q).1 (step_ready s shift limit p.ran.state o.ready); space = rw g.0 (g.2 q).0 };
          ends = i.ends;
        };
      }
    where
      shuffle : (ds : List Token) (r : Run) → before (ds ++ (taken p ∷ [])) r ≡ before ds (also (taken p) r)
      shuffle ds r = ap (λ (y : List Token). record { tokens = y; how = r.how; state = r.state; last = r.last }) (append_snoc ds (taken p) r.tokens)

  pub advance-stored : (p : Pending) → (advance_of s shift limit room p).ran.stored ≡ p.ran.stored + 1
  unfolding advance_of
  advance-stored p = (pend_goes s shift limit room (p.ran.stored + 1) p.ran.state).0

  pub core_end : (k : ℕ) (p : Pending) (done : List Token) → Core s shift limit room t₀ k p done → is_going p ≡ false
      → (p.ran ≡ ran_of s shift limit room t₀) × (done ≡ (whole_run s shift limit room t₀).tokens)
  unfolding onward ran_with
  core_end k p done i e =
      let h : before done (onward_by s shift limit room false k p) ≡ whole_run s shift limit room t₀ = rw e at i.run_is in
      let d : done ≡ (whole_run s shift limit room t₀).tokens = sym (append-nil done) ∙ ap (λ (r : Run). r.tokens) h in
      let n : p.ran.stored ≡ length (whole_run s shift limit room t₀).tokens = i.stored_is ∙ ap length d in
      let w : p.ran.how ≡ (whole_run s shift limit room t₀).how = ap (λ (r : Run). r.how) h in
      let u : p.ran.state ≡ (whole_run s shift limit room t₀).state = ap (λ (r : Run). r.state) h in
      let g : p.ran.last_depth ≡ (whole_run s shift limit room t₀).last = ap (λ (r : Run). r.last) h in
      (rw (← n, ← w, ← u, ← g, ← i.counted), d)

-- ---- the same with a lent list of records: it was xs, and is ys
pub record Inv (s : List ℕ) (shift limit : ℕ) (xs : List Token) (t₀ : Tokenizer) (k : ℕ) (p : Pending) (ys : List Token) : Type 0 where
  pub done : List Token
  pub core : Core s shift limit (length xs) t₀ k p done
  pub list_is : ys ≡ over done xs

module _ (s : List ℕ) (shift limit : ℕ) (xs : List Token) (t₀ : Tokenizer) where
  abbrev room : ℕ
  room = length xs

  pub start : Inv s shift limit xs t₀ (length s) (begin_of s shift limit room t₀) xs
  start = record { done = []; core = core_start s shift limit room t₀; list_is = refl }

  module _ (k : ℕ) (p : Pending) (ys : List Token) (i : Inv s shift limit xs t₀ k p ys) where
    pub same_length : length ys ≡ length xs
    same_length = ap length i.list_is ∙ length_front xs i.done (length i.done) (sym (length-take-le (length i.done) xs i.core.fits))

    pub goes_on : is_going p ≡ true → Onward s shift room p
    goes_on e = i.core.going_on e

    pub within : is_going p ≡ true → p.ran.stored < length xs
    within e = (goes_on e).space

  -- the list after the store
  longer : (ds : List Token) (a : Token) → suc (length ds) ≡ length (ds ++ (a ∷ []))
  longer [] a = refl
  longer (d ∷ ds) a = ap suc (longer ds a)

  stores : (done : List Token) (n : ℕ) (t : Token) → n ≡ length done → n < length xs → set (over done xs) n t ≡ over (done ++ (t ∷ [])) xs
  stores done n t e l =
      ap (λ (m : ℕ). set (done ++ drop (length done) xs) m t) e
      ∙ ap (λ (r : List Token). set (done ++ r) (length done) t) (drop-cons xs (length done) t (subst (λ (m : ℕ). m < length xs) e l))
      ∙ set-append_seam done (get_or xs (length done) t) (drop (suc (length done)) xs) t
      ∙ ap (λ (m : ℕ). done ++ t ∷ drop m xs) (longer done t)
      ∙ sym (append_snoc done t (drop (length (done ++ (t ∷ []))) xs))

  pub record Next (k : ℕ) (p : Pending) (ys : List Token) : Type 0 where
    pub less : ℕ
    pub below : less < k
    pub again : Inv s shift limit xs t₀ less (advance_of s shift limit room p) (set ys p.ran.stored (taken p))

  pub turn : (k : ℕ) (p : Pending) (ys : List Token) → Inv s shift limit xs t₀ k p ys → is_going p ≡ true → Next k p ys
  turn k p ys i e =
      let n = core_turn s shift limit room t₀ k p i.done i.core e in
      record {
        less = n.less;
        below = n.below;
        again = record {
          done = i.done ++ (taken p ∷ []);
          core = n.again;
          list_is = ap (λ (y : List Token). set y p.ran.stored (taken p)) i.list_is ∙ stores i.done p.ran.stored (taken p) i.core.stored_is (within k p ys i e);
        };
      }

  pub end : (k : ℕ) (p : Pending) (ys : List Token) → Inv s shift limit xs t₀ k p ys → is_going p ≡ false
      → (p.ran ≡ ran_of s shift limit room t₀) × (ys ≡ over (whole_run s shift limit room t₀).tokens xs)
  end k p ys i e =
      let h = core_end s shift limit room t₀ k p i.done i.core e in
      (h.0, i.list_is ∙ ap (λ (y : List Token). over y xs) h.1)
