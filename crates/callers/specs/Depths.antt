-- WHAT THE RECORDS OF A RUN TELL OF DEPTHS, and the run of its last gap, from any tokenizer. 02, E4: "a record keeps two, for the gap before it and for its
-- code", "the last gap's stands beside the count, 0 unless the end is reached". `Layers` (spans/specs/Depths) says a gap's depth of its characters alone.
use Prim.Native.Nat.{ℕ, zero, suc, ◌+◌, ◌-◌}
use Rattle.std.proofs.Common.{arith, sym, ◌∙◌, take-append-drop, drop-drop, Option, Some, Result, Ok, Err}
use Rattle.std.specs.Prelude.{Bool, List, [], ◌++◌, ◌∷◌, ◌≡◌, ltb, drop, length, take}
use Rattle.std.proofs.Math.Bool.{false, true}
use Rattle.std.proofs.Math.Path.{refl, ap}
use Rattle.std.proofs.Math.Seq.{drop-length, take-length}
use Rattle.utf8.specs.Utf8.{boundary}
use Rattle.record.specs.Checks.{checks}
use Rattle.record.specs.declared.Kind.{Kind}
use Rattle.record.specs.declared.Reading.{Reading}
use Rattle.record.specs.declared.Refusal.{Refusal}
use Rattle.record.specs.declared.Token.{Token}
use Rattle.scan.specs.Far.{after, far_left, then}
use Rattle.scan.specs.Until.{left}
use Rattle.code.specs.Code.{code_depth_of}
use Rattle.reading.proofs.CallLaw.{LaidIn, next-laid}
use Rattle.reading.specs.Gaps.{gap_depth_of}
use Rattle.reading.specs.Measures.{tail_of}
use Rattle.reading.specs.Next.{next}
use Rattle.reading.specs.Run.{Run, run, run_from, run_from_with, run_with, shift_token, shift_what, step, stopped}
use Rattle.reading.proofs.Story.{again_end, again_error, call, run_end, run_error, run_full, run_got, step-on, step-over}
use Rattle.reading.specs.declared.Outcome.{Outcome}
use Rattle.reading.specs.declared.Outcome.TheVariants.{Ended, Refused, Running}
use Rattle.reading.specs.declared.Stepped.{Stepped}
use Rattle.reading.specs.declared.Tokenizer.{Tokenizer}
use Rattle.reading.specs.declared.What.{What}
use Rattle.reading.specs.declared.What.TheVariants.{End, Error, Got}
use Rattle.run.specs.Checked.{ran_with, run_if, whole_run, whole_run_with}
use Rattle.run.specs.declared.Ran.{Ran}
use Rattle.ltk.specs.Ltk.{entry_of}
use Rattle.spans.specs.Depths.{Layers, gap_layers}
use Rattle.ledger.specs.Books.{held}
use Rattle.ledger.specs.Levels.{code-told, flat-told, gap-told, last-told, takes_code}
use Rattle.ledger.specs.Order.{Called, called, found, placed}
use Rattle.callers.specs.PublicCalls.{Nexts, RunsFrom}
use Rattle.callers.specs.Single.{delivered}

-- a token after a gap from the place at on: the gap's characters, the place after them, where the token starts, and their depth, which the token tells
pub record GapTold (s : List ℕ) (shift at : ℕ) (t : Token) : Type 0 where
  pub chars : List ℕ
  pub place : ℕ
  pub depth : ℕ
  pub stands : left s at ≡ chars ++ left s place
  pub start : t.start ≡ place + shift
  pub layers : Layers (left s place) chars depth
  pub told : t.gap_depth ≡ Some depth

-- where the gap after a token starts: at its end, or, in the old reading, past the character that is dropped after an attribute
abbrev pub gap_from : Reading → List ℕ → Kind → ℕ → ℕ
gap_from rd s kind p = after (tail_of rd kind (left s p)) (left s p) p

-- each of a list, the gap of the first from the place at on
abbrev pub AllGaps : Reading → List ℕ → ℕ → ℕ → List Token → Type 0
AllGaps rd s shift at [] = Unit {0}
AllGaps rd s shift at (t ∷ ts) = GapTold s shift at t × AllGaps rd s shift (gap_from rd s t.kind (t.end - shift)) ts

-- where the gap after the last of a list starts
abbrev pub last_from : Reading → List ℕ → ℕ → ℕ → List Token → ℕ
last_from rd s shift at [] = at
last_from rd s shift at (t ∷ ts) = last_from rd s shift (gap_from rd s t.kind (t.end - shift)) ts

-- a token that tells the depth of its code, which starts where its payload does; 0 if its kind takes none
pub record CodeTold (rd : Reading) (s : List ℕ) (shift : ℕ) (t : Token) : Type 0 where
  pub place : ℕ
  pub from : t.payload_start ≡ place + shift
  pub code : takes_code t.kind ≡ true → t.code_depth ≡ Some (code_depth_of rd (left s place) place)
  pub flat : takes_code t.kind ≡ false → t.code_depth ≡ Some 0

abbrev pub AllCodes : Reading → List ℕ → ℕ → List Token → Type 0
AllCodes rd s shift [] = Unit {0}
AllCodes rd s shift (t ∷ ts) = CodeTold rd s shift t × AllCodes rd s shift ts

-- ---- of a call
module _ (rd : Reading) (s : List ℕ) (shift at : ℕ) (t : Token) (got : (next rd (left s at) at).what ≡ Got t) where
  call-gap : GapTold s shift at (shift_token shift t)
  call-gap =
      let h = placed rd s at t got in
      let m = h.gapped in
      let e = far_left s at m t.start h.gap_far in
      record {
        chars = take m (left s at);
        place = t.start;
        depth = gap_depth_of (left s at) at;
        stands = sym (take-append-drop m (left s at)) ∙ ap (λ (l : List ℕ). take m (left s at) ++ l) e;
        start = refl;
        layers = rw e at (gap_layers (left s at) at t.start m h.gap_is);
        told = gap-told rd s at t got;
      }

  call-code : CodeTold rd s shift (shift_token shift t)
  call-code = record { place = t.payload_start; from = refl; code = code-told rd s at t got; flat = flat-told rd s at t got }

  -- the cursor after it
  call_from : (next rd (left s at) at).at ≡ gap_from rd s t.kind (t.end + shift - shift)
  call_from =
      let h = placed rd s at t got in
      let z : t.end + shift - shift ≡ t.end = omega arith in
      let f = far_left s at (h.gapped + h.width) t.end (then h.gapped (left s at) at t.start h.width t.end h.gap_far h.span) in
      let e : drop h.width (drop h.gapped (left s at)) ≡ left s t.end = drop-drop h.width h.gapped (left s at) ∙ f in
      rw z (h.tail.there ∙ ap (λ (l : List ℕ). after (tail_of rd t.kind l) l t.end) e)

all_gaps : (rd : Reading) (s : List ℕ) (shift at : ℕ) (ts : List Token) → Called rd s shift at ts → AllGaps rd s shift at ts
all_gaps rd s shift at [] c = tt
all_gaps rd s shift at (x ∷ ts) c =
    let d = c.0 in
    rw d.shifted (call-gap rd s shift at d.token d.got, rw (call_from rd s shift at d.token d.got) at (all_gaps rd s shift (next rd (left s at) at).at ts c.1))

all_codes : (rd : Reading) (s : List ℕ) (shift at : ℕ) (ts : List Token) → Called rd s shift at ts → AllCodes rd s shift ts
all_codes rd s shift at [] c = tt
all_codes rd s shift at (x ∷ ts) c = let d = c.0 in (rw d.shifted (call-code rd s shift at d.token d.got), all_codes rd s shift (next rd (left s at) at).at ts c.1)

-- ---- the last gap
no_refused : {A : Type 0} (z : Refusal) → Refused z ≡ Ended → A
no_refused z e = let w : ◌≡◌ {A = ℕ} 0 1 = cc in absurd (omega arith)

no-running : {A : Type 0} → Running ≡ Ended → A
no-running e = let w : ◌≡◌ {A = ℕ} 0 1 = cc in absurd (omega arith)

-- a call that answers the end passes all that is left
end_layers : (rd : Reading) (s : List ℕ) (at p n : ℕ) (w : What) → w ≡ End → LaidIn rd (left s at) at p n w → Layers [] (left s at) (gap_depth_of (left s at) at)
end_layers rd s at p n (Got t) e h = let q : ◌≡◌ {A = ℕ} 0 1 = cc in absurd (omega arith)
end_layers rd s at p n (Error z) e h = let q : ◌≡◌ {A = ℕ} 0 1 = cc in absurd (omega arith)
end_layers rd s at p n End e h =
    let l : Layers (drop n (left s at)) (take n (left s at)) (gap_depth_of (left s at) at) = gap_layers (left s at) at p n h.0 in
    let l' : Layers (drop (length (left s at)) (left s at)) (take (length (left s at)) (left s at)) (gap_depth_of (left s at) at) = rw h.1 at l in
    rw (drop-length (left s at), take-length (left s at)) at l'

module _ (s : List ℕ) (shift limit : ℕ) where
  -- what a run from the place at says of its last gap
  abbrev Lasts : Reading → ℕ → Run → Type 0
  Lasts rd at r = r.how ≡ Ended → Layers [] (left s (last_from rd s shift at r.tokens)) r.last

  -- a turn of a run, by what its call answers
  module _ (k room : ℕ) (t : Tokenizer) where
    abbrev Turned : Type 0
    Turned = Lasts t.reading t.at (run_from s shift limit (suc k) room t)

    by_error : (z : Refusal) → (step s shift limit t).what ≡ Error z → Turned
    by_error z e = rw (run_error s shift limit k room t z e) (λ q. no_refused z q)

    module _ (d : t.done ≡ Running) (on : ltb limit (t.count + (call s shift limit t).advances) ≡ false) where
      what_is : (w : What) → (call s shift limit t).what ≡ w → (step s shift limit t).what ≡ shift_what shift w
      what_is w v = ap (λ (x : Stepped). x.what) (step-on s shift limit t d on) ∙ ap (shift_what shift) v

      by_end : (call s shift limit t).what ≡ End → Turned
      unfolding call
      by_end v =
          let g : (step s shift limit t).gap_depth ≡ gap_depth_of (left s t.at) t.at =
          ap (λ (x : Stepped). x.gap_depth) (step-on s shift limit t d on) ∙ last-told t.reading s t.at v in
          let h = end_layers t.reading s t.at _ _ (next t.reading (left s t.at) t.at).what v (next-laid t.reading (left s t.at) t.at).is in
          rw (run_end s shift limit k room t (what_is End v)) (λ _. rw g h)

      by_token : ((m : ℕ) (u : Tokenizer) → u.done ≡ Running → Lasts u.reading u.at (run_from s shift limit k m u))
          → (x : Token) → (call s shift limit t).what ≡ Got x → (b : Bool) → ltb 0 room ≡ b → Turned
      unfolding call
      by_token ih x v true q =
          let u = (step s shift limit t).next in
          let n = ap (λ (y : Stepped). y.next) (step-on s shift limit t d on) in
          let r : u.done ≡ Running = ap (λ (y : Tokenizer). y.done) n ∙ rw v in
          let b : u.reading ≡ t.reading = ap (λ (y : Tokenizer). y.reading) n in
          let a : u.at ≡ gap_from t.reading s x.kind (x.end + shift - shift) = ap (λ (y : Tokenizer). y.at) n ∙ call_from t.reading s shift t.at x v in
          rw (run_got s shift limit k room t (shift_token shift x) (what_is (Got x) v) q) (rw (b, a) at (ih (room - 1) u r))
      by_token ih x v false q = rw (run_full s shift limit k room t (shift_token shift x) (what_is (Got x) v) q) (λ e. no_refused _ e)

  lasts-from : (k room : ℕ) (t : Tokenizer) → t.done ≡ Running → Lasts t.reading t.at (run_from s shift limit k room t)
  unfolding run_from_with
  lasts-from zero room t d = λ e. no-running e
  lasts-from (suc k) room t d = go (λ m u. lasts-from k m u) (ltb limit (t.count + (call s shift limit t).advances)) refl
    where
      Again : Type 0
      Again = (m : ℕ) (u : Tokenizer) → u.done ≡ Running → Lasts u.reading u.at (run_from s shift limit k m u)

      by : Again → ltb limit (t.count + (call s shift limit t).advances) ≡ false → (w : What) → (call s shift limit t).what ≡ w → Lasts t.reading t.at (run_from s shift limit (suc k) room t)
      by ih on (Got x) v = by_token k room t d on ih x v (ltb 0 room) refl
      by ih on (Error z) v = by_error k room t _ (what_is k room t d on (Error z) v)
      by ih on End v = by_end k room t d on v

      go : Again → (b : Bool) → ltb limit (t.count + (call s shift limit t).advances) ≡ b → Lasts t.reading t.at (run_from s shift limit (suc k) room t)
      go ih true q = by_error k room t _ (ap (λ (x : Stepped). x.what) (step-over s shift limit t d q))
      go ih false q = by ih q (call s shift limit t).what refl

  -- a run that does not end tells none
  none_from : (k room : ℕ) (t : Tokenizer) → ((run_from s shift limit k room t).how ≡ Ended → ⊥) → (run_from s shift limit k room t).last ≡ 0
  unfolding run_from_with
  none_from zero room t n = refl
  none_from (suc k) room t n = go (λ m u. none_from k m u) (step s shift limit t).what refl
    where
      Again : Type 0
      Again = (m : ℕ) (u : Tokenizer) → ((run_from s shift limit k m u).how ≡ Ended → ⊥) → (run_from s shift limit k m u).last ≡ 0

      some : Again → (y : Token) → (step s shift limit t).what ≡ Got y → (b : Bool) → ltb 0 room ≡ b → (run_from s shift limit (suc k) room t).last ≡ 0
      some ih y e true q =
          let g = run_got s shift limit k room t y e q in
          ap (λ (x : Run). x.last) g ∙ ih (room - 1) (step s shift limit t).next (λ w. n (ap (λ (x : Run). x.how) g ∙ w))
      some ih y e false q = ap (λ (x : Run). x.last) (run_full s shift limit k room t y e q)

      go : Again → (w : What) → (step s shift limit t).what ≡ w → (run_from s shift limit (suc k) room t).last ≡ 0
      go ih (Got y) e = some ih y e (ltb 0 room) refl
      go ih (Error z) e = ap (λ (x : Run). x.last) (run_error s shift limit k room t z e)
      go ih End e = absurd (n (ap (λ (x : Run). x.how) (run_end s shift limit k room t e)))

  -- what holds of a run that stopped at once, and of one that is read, holds of every run
  module _ (room : ℕ) (t : Tokenizer) where
    whole : (P : Run → Type 0) → ((z : Refusal) → P (stopped (Refused z) t)) → P (run s shift limit room t) → P (whole_run s shift limit room t)
    unfolding whole_run_with
    whole P f g = go (checks s shift) (boundary s t.at) refl
      where
        go : (c : Result Unit Refusal) (b : Bool) → boundary s t.at ≡ b → P (run_if c s shift limit room t)
        go (Err z) b q = f z
        go (Ok tt) false q = rw q (f _)
        go (Ok tt) true q = rw q g

    whole-lasts : (t.done ≡ Ended → ⊥) → Lasts t.reading t.at (whole_run s shift limit room t)
    unfolding run_with
    whole-lasts n = whole (Lasts t.reading t.at) (λ z e. no_refused z e) (go t.done refl)
      where
        go : (d : Outcome) → t.done ≡ d → Lasts t.reading t.at (run s shift limit room t)
        go Running d = lasts-from (suc (length s)) room t d
        go Ended d = absurd (n d)
        go (Refused z) d = rw (again_error s shift limit room t z d) (λ e. no_refused z e)

    whole-none : ((whole_run s shift limit room t).how ≡ Ended → ⊥) → (whole_run s shift limit room t).last ≡ 0
    unfolding run_with
    whole-none = whole (λ (r : Run). (r.how ≡ Ended → ⊥) → r.last ≡ 0) (λ z n. refl) (none_from (suc (length s)) room t)

    whole_again : t.done ≡ Ended → (whole_run s shift limit room t).last ≡ 0
    whole_again d = whole (λ (r : Run). r.last ≡ 0) (λ z. refl) (ap (λ (x : Run). x.last) (again_end s shift limit room t d))

-- ---- THE THEOREMS, of what the contract of `run::run` allows
module _ (s : List ℕ) (shift limit : ℕ) (t : Tokenizer) (before : List Token) (r : Ran) (after : List Token) (contract : RunsFrom s shift limit t before r after) where
  -- each record tells the depth of the gap before it, which is that of its characters' marks
  pub gaps_told : AllGaps t.reading s shift t.at (held r after)
  gaps_told = rw (found s shift limit before after t r contract) (all_gaps t.reading s shift t.at (whole_run s shift limit (length before) t).tokens (called s shift limit (length before) t))

  -- and that of its code, or 0 if its kind takes none
  pub codes-told : AllCodes t.reading s shift (held r after)
  codes-told = rw (found s shift limit before after t r contract) (all_codes t.reading s shift t.at (whole_run s shift limit (length before) t).tokens (called s shift limit (length before) t))

  how_is : r.how ≡ (whole_run s shift limit (length before) t).how
  unfolding ran_with
  how_is = ap (λ (x : Ran). x.how) contract.0

  last-is : r.last_depth ≡ (whole_run s shift limit (length before) t).last
  unfolding ran_with
  last-is = ap (λ (x : Ran). x.last_depth) contract.0

  -- a run that reaches the end answers the depth of all that was left after its last token
  pub last-gap : (t.done ≡ Ended → ⊥) → r.how ≡ Ended → Layers [] (left s (last_from t.reading s shift t.at (held r after))) r.last_depth
  last-gap n e = rw (found s shift limit before after t r contract, last-is) (whole-lasts s shift limit (length before) t n (sym how_is ∙ e))

  -- one that does not, 0
  pub last_none : (r.how ≡ Ended → ⊥) → r.last_depth ≡ 0
  last_none n = last-is ∙ whole-none s shift limit (length before) t (λ e. n (how_is ∙ e))

  -- and so does one from a tokenizer that had ended: it passes no gap
  pub last_again : t.done ≡ Ended → r.last_depth ≡ 0
  last_again d = last-is ∙ whole_again s shift limit (length before) t d

-- ---- and of the contract of `run::next`: the token that a single call answers tells the depth of the gap from the cursor on, and that of its code
module _ (s : List ℕ) (shift limit : ℕ) (t : Tokenizer) (y : Token) (u : Tokenizer) (contract : Nexts s shift limit t (Got y) u) where
  pub next-gap-told : GapTold s shift t.at y
  next-gap-told = let d = delivered s shift limit t y u contract in rw d.shifted (call-gap t.reading s shift t.at d.token d.got)

  pub next-code-told : CodeTold t.reading s shift y
  next-code-told = let d = delivered s shift limit t y u contract in rw d.shifted (call-code t.reading s shift t.at d.token d.got)

-- "and the writers accept either": what the LTK writer takes of a record is the same whatever that tells of depths
pub either_written : (g d : Option ℕ) (t : Token)
    → entry_of (record { kind = t.kind; start = t.start; end = t.end; payload_start = t.payload_start; payload_end = t.payload_end; gap_depth = g; code_depth = d })
    ≡ entry_of t
either_written g d t = refl
