-- THE ORDER OF A RUN. What order is; every call that delivers a token moves the cursor; a run delivers at most as many tokens as there are
-- characters. Of every run, ended or stopped by an error, 14 or 15, with any shift, limit and room, from any tokenizer. That tokens ascend is in
-- proofs/Order.antt.
use Prim.Native.Nat.{ℕ, zero, suc, ◌+◌, ◌-◌, ◌≤◌, ◌<◌}
use Rattle.std.proofs.Common.{arith, sym, take_at, Result, Ok, Err}
use Rattle.std.specs.Prelude.{Bool, List, [], ◌∷◌, ◌≡◌, ltb, take}
use Rattle.std.proofs.Math.Bool.{true, false}
use Rattle.std.proofs.Math.Path.{refl, ap}
use Rattle.std.proofs.Math.ListN.{length}
use Rattle.utf8.specs.Utf8.{boundary, chars}
use Rattle.record.specs.Allowed.{Allowed, allowed}
use Rattle.record.specs.Checks.{checks}
use Rattle.record.specs.Records.{over}
use Rattle.record.specs.declared.Reading.{Reading}
use Rattle.record.specs.declared.Refusal.{Refusal}
use Rattle.record.specs.declared.Token.{Token}
use Rattle.scan.specs.Far.{lands}
use Rattle.scan.specs.Near.{far_on}
use Rattle.scan.specs.Until.{left}
use Rattle.reading.proofs.AnyCall.{step_reading}
use Rattle.reading.specs.Answers.{start_in}
use Rattle.reading.proofs.CallLaw.{Placed, next-laid}
use Rattle.reading.specs.Next.{next}
use Rattle.reading.specs.Run.{run, run_from, run_from_with, run_with, shift_token, shift_what, step, step_by, step_in, step_with}
use Rattle.reading.proofs.Story.{run_end, run_error, run_full, run_got}
use Rattle.reading.proofs.Sums.{placed_far, placed_length}
use Rattle.reading.specs.declared.Outcome.{Outcome}
use Rattle.reading.specs.declared.Outcome.TheVariants.{Ended, Refused, Running}
use Rattle.reading.specs.declared.Stepped.{Stepped}
use Rattle.reading.specs.declared.Tokenizer.{Tokenizer}
use Rattle.reading.specs.declared.What.{What}
use Rattle.reading.specs.declared.What.TheVariants.{End, Error, Got}
use Rattle.run.specs.Checked.{next_token, next_token_with, ran_of, ran_with, run_if, step_if, whole_run, whole_run_with}
use Rattle.run.specs.declared.Ran.{Ran}

-- each token starts at or after the end of the one before it, none is empty, and none ends beyond the place to
abbrev pub Ordered : ℕ → ℕ → List Token → Type 0
Ordered from to [] = Unit {0}
Ordered from to (t ∷ ts) = (from ≤ t.start) × (t.start < t.end) × (t.end ≤ to) × Ordered t.end to ts

-- the token that the call at a place delivers in a reading, with the shift
pub record Delivers (rd : Reading) (s : List ℕ) (shift at : ℕ) (x : Token) : Type 0 where
  pub token : Token
  pub got : (next rd (left s at) at).what ≡ Got token
  pub shifted : x ≡ shift_token shift token

-- tokens of one call after the other, the first of them at the place at
abbrev pub Called : Reading → List ℕ → ℕ → ℕ → List Token → Type 0
Called rd s shift at [] = Unit {0}
Called rd s shift at (x ∷ ts) = Delivers rd s shift at x × Called rd s shift (next rd (left s at) at).at ts

-- ---- a step that delivers a token is a call that does
no_got : {A : Type 0} (z : Refusal) (y : Token) → Error z ≡ Got y → A
no_got z y e = let w : ◌≡◌ {A = ℕ} 0 1 = cc in absurd (omega arith)

no_end : {A : Type 0} (y : Token) → End ≡ Got y → A
no_end y e = let w : ◌≡◌ {A = ℕ} 0 1 = cc in absurd (omega arith)

module _ (s : List ℕ) (shift limit : ℕ) (t : Tokenizer) where
  -- the token is the call's, and the tokenizer stands at its cursor
  abbrev pub Gives : Token → Stepped → Type 0
  Gives y x = Delivers t.reading s shift t.at y × (x.next.at ≡ (next t.reading (left s t.at) t.at).at)

  by_what : (y : Token) (w : What) → (next t.reading (left s t.at) t.at).what ≡ w → shift_what shift w ≡ Got y → Delivers t.reading s shift t.at y
  by_what y (Got x) g e = record { token = x; got = g; shifted = cc }
  by_what y (Error z) g e = no_got _ y e
  by_what y End g e = no_end y e

  by_got : (y : Token) → (step_by shift limit t (next t.reading (left s t.at) t.at)).what ≡ Got y → Gives y (step_by shift limit t (next t.reading (left s t.at) t.at))
  by_got y e = go (ltb limit (t.count + (next t.reading (left s t.at) t.at).advances)) refl
    where
      go : (b : Bool) → ltb limit (t.count + (next t.reading (left s t.at) t.at).advances) ≡ b → Gives y (step_by shift limit t (next t.reading (left s t.at) t.at))
      go true q = no_got _ y (rw q at e)
      go false q = rw q (by_what y (next t.reading (left s t.at) t.at).what refl (rw q at e), refl)

  in_got : (d : Outcome) (y : Token) → (step_in d s shift limit t).what ≡ Got y → Gives y (step_in d s shift limit t)
  in_got Running y e = by_got y e
  in_got Ended y e = no_end y e
  in_got (Refused z) y e = no_got z y e

  pub step_got : (y : Token) → (step s shift limit t).what ≡ Got y → Gives y (step s shift limit t)
  unfolding step_with
  step_got y e = in_got t.done y e

-- ---- so the tokens of a run are those of its calls
module _ (s : List ℕ) (shift limit : ℕ) where
  called-from : (k room : ℕ) (t : Tokenizer) → Called t.reading s shift t.at (run_from s shift limit k room t).tokens
  unfolding run_from_with
  called-from zero room t = tt
  called-from (suc k) room t = go (λ m u. called-from k m u) (step s shift limit t).what refl
    where
      Again : Type 0
      Again = (m : ℕ) (u : Tokenizer) → Called u.reading s shift u.at (run_from s shift limit k m u).tokens

      some : Again → (y : Token) → (step s shift limit t).what ≡ Got y → (b : Bool) → ltb 0 room ≡ b → Called t.reading s shift t.at (run_from s shift limit (suc k) room t).tokens
      some ih y e true q =
          let g = step_got s shift limit t y e in
          rw (run_got s shift limit k room t y e q) (g.0, rw (step_reading next s shift limit t, g.1) at (ih (room - 1) (step s shift limit t).next))
      some ih y e false q = rw (run_full s shift limit k room t y e q) tt

      go : Again → (w : What) → (step s shift limit t).what ≡ w → Called t.reading s shift t.at (run_from s shift limit (suc k) room t).tokens
      go ih (Got y) e = some ih y e (ltb 0 room) refl
      go ih (Error z) e = rw (run_error s shift limit k room t z e) tt
      go ih End e = rw (run_end s shift limit k room t e) tt

-- ---- what holds of no tokens, and of a run that passed the checks, holds of every run
module _ (s : List ℕ) (shift limit room : ℕ) (t : Tokenizer) where
  pub of_run : (P : List Token → Type 0) → P [] → (Allowed s shift → boundary s t.at ≡ true → Called t.reading s shift t.at (run s shift limit room t).tokens → P (run s shift limit room t).tokens)
      → P (whole_run s shift limit room t).tokens
  unfolding whole_run_with run_with
  of_run P none some = go (checks s shift) (boundary s t.at) refl refl
    where
      go : (c : Result Unit Refusal) (b : Bool) → checks s shift ≡ c → boundary s t.at ≡ b → P (run_if c s shift limit room t).tokens
      go (Err r) b e q = none
      go (Ok tt) false e q = rw q none
      go (Ok tt) true e q = rw q (some (allowed s shift e) q (called-from s shift limit (suc (length s)) room t))

  pub called : Called t.reading s shift t.at (whole_run s shift limit room t).tokens
  called = of_run (λ ts. Called t.reading s shift t.at ts) tt (λ a b c. c)

-- ---- a call that delivers a token
module _ (rd : Reading) (s : List ℕ) (at : ℕ) (t : Token) (got : (next rd (left s at) at).what ≡ Got t) where
  pub placed : Placed rd (left s at) at t (next rd (left s at) at).at (next rd (left s at) at).advances
  placed = rw got at (next-laid rd (left s at) at).is

  -- gap, token and dropped character follow each other, and the token has a character at least
  pub start-on : at ≤ t.start
  start-on = let h = placed in let g = far_on _ _ _ _ h.gap_far in omega arith

  pub not_empty : t.start < t.end
  not_empty = let h = placed in let g = far_on _ _ _ _ h.span in let w = h.some in omega arith

  pub end_on : t.end ≤ (next rd (left s at) at).at
  end_on = let h = placed in let g = far_on _ _ _ _ h.tail in omega arith

  pub end-within : at ≤ length s → (next rd (left s at) at).at ≤ length s
  end-within l = (lands _ s at _ (placed_far rd _ _ _ _ _ placed)).room l

  -- PROGRESS: the cursor moves
  pub progress : at < (next rd (left s at) at).at
  progress = let a = start-on in let b = not_empty in let c = end_on in omega arith

  pub fewer : suc (length (left s (next rd (left s at) at).at)) ≤ length (left s at)
  fewer = let h = placed in let l = placed_length rd s at t _ _ h in let w = h.some in omega arith

-- of the public single call
pub moves : (s : List ℕ) (shift limit : ℕ) (t : Tokenizer) (y : Token) → (next_token s shift limit t).what ≡ Got y → t.at < (next_token s shift limit t).next.at
unfolding next_token_with
moves s shift limit t y e = go (checks s shift) (boundary s t.at) refl refl
  where
    go : (c : Result Unit Refusal) (b : Bool) → checks s shift ≡ c → boundary s t.at ≡ b → t.at < (step_if (checks s shift) s shift limit t).next.at
    go (Err r) b f q = no_got r y (rw f at e)
    go (Ok tt) false f q = no_got _ y (rw (f, q) at e)
    go (Ok tt) true f q =
        let g = step_got s shift limit t y (rw (f, q) at e) in
        rw (f, q, g.1) (progress t.reading s t.at g.0.token g.0.got)

-- ---- the tokens of calls, one after the other
module _ (rd : Reading) (s : List ℕ) (shift : ℕ) where
  few : (at : ℕ) (ts : List Token) → Called rd s shift at ts → length ts ≤ length (left s at)
  few at [] c = omega arith
  few at (x ∷ ts) c =
      let g = fewer rd s at c.0.token c.0.got in
      let i = few (next rd (left s at) at).at ts c.1 in
      omega arith

-- ---- THE THEOREMS
module _ (s : List ℕ) (shift limit room : ℕ) (t : Tokenizer) where
  -- there are no more tokens than there are characters left
  pub at-most-left : length (whole_run s shift limit room t).tokens ≤ length (left s t.at)
  at-most-left = few t.reading s shift t.at (whole_run s shift limit room t).tokens (called s shift limit room t)

-- "a run delivers at most N tokens"
pub at_most : (rd : Reading) (s : List ℕ) (shift limit room : ℕ) → length (whole_run s shift limit room (start_in rd)).tokens ≤ length (chars s)
at_most rd s shift limit room = let h = at-most-left s shift limit room (start_in rd) in omega arith

-- what a caller finds in the lent list, up to the count that `run::run` answers, is these tokens
module _ (s : List ℕ) (shift limit : ℕ) (list-before list-after : List Token) (t : Tokenizer) (r : Ran) where
  pub found : (r ≡ ran_of s shift limit (length list-before) t) × (list-after ≡ over (whole_run s shift limit (length list-before) t).tokens list-before)
      → take r.stored list-after ≡ (whole_run s shift limit (length list-before) t).tokens
  unfolding ran_with
  found h =
      let n : r.stored ≡ length (whole_run s shift limit (length list-before) t).tokens = ap (λ (x : Ran). x.stored) h.0 in
      rw h.1 (take_at (whole_run s shift limit (length list-before) t).tokens _ r.stored (sym n))
