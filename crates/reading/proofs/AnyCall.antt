-- What holds of a run over any call: its turns, its room, and the answers that it repeats. Nothing of the reading is asked.
use Prim.Native.Nat.{◌+◌, ◌-◌, ◌≤◌, suc, zero, ℕ}
use native.Mathlib.Omega.{arith}
use Rattle.std.specs.Prelude.{Bool, false, true, List, ◌≡◌, ltb, drop}
use Rattle.std.proofs.Common.{◌∙◌}
use Rattle.std.proofs.Math.Path.{ap, refl}
use Rattle.std.proofs.Math.ListN.{length}
use Rattle.utf8.specs.Picks.{tests}
use Rattle.utf8.specs.Utf8.{chars}
use Rattle.record.specs.Records.{refusal}
use Rattle.record.specs.declared.Code.TheVariants.{NoRoom}
use Rattle.record.specs.declared.Reading.{Reading}
use Rattle.record.specs.declared.Refusal.{Refusal}
use Rattle.record.specs.declared.Token.{Token}
use Rattle.reading.specs.Run.{also, ending, run_from_with, run_with, step_by, step_in_with, step_with, stopped}
use Rattle.reading.specs.declared.Call.{Call}
use Rattle.reading.specs.declared.Outcome.{Outcome}
use Rattle.reading.specs.declared.Outcome.TheVariants.{Ended, Refused, Running}
use Rattle.reading.specs.declared.Stepped.{Stepped}
use Rattle.reading.specs.declared.Tokenizer.{Tokenizer}
use Rattle.reading.specs.declared.What.{What}
use Rattle.reading.specs.declared.What.TheVariants.{End, Error, Got}

module _ (call : Reading → List ℕ → ℕ → Call) (s : List ℕ) (shift limit : ℕ) where
  -- a turn of the run, by what the step answers
  module _ (k room : ℕ) (t : Tokenizer) where
    pub turn_got : (y : Token) → (step_with call s shift limit t).what ≡ Got y → ltb 0 room ≡ true
        → run_from_with call s shift limit (suc k) room t ≡ also y (run_from_with call s shift limit k (room - 1) (step_with call s shift limit t).next)
    unfolding run_from_with
    turn_got y e q = rw (e, run_from_with) (rw q)

    pub turn_full : (y : Token) → (step_with call s shift limit t).what ≡ Got y → ltb 0 room ≡ false
        → run_from_with call s shift limit (suc k) room t ≡ stopped (Refused (refusal NoRoom y.start)) t
    unfolding run_from_with
    turn_full y e q = rw (e, run_from_with) (rw q)

    pub turn_error : (z : Refusal) → (step_with call s shift limit t).what ≡ Error z
        → run_from_with call s shift limit (suc k) room t ≡ stopped (Refused z) (step_with call s shift limit t).next
    unfolding run_from_with
    turn_error z e = rw (e, run_from_with)

    pub turn_end : (step_with call s shift limit t).what ≡ End → run_from_with call s shift limit (suc k) room t ≡ ending (step_with call s shift limit t).gap_depth (step_with call s shift limit t).next
    unfolding run_from_with
    turn_end e = rw (e, run_from_with)

  -- a tokenizer that has answered the end or an error repeats it, and stays as it is
  module _ (room : ℕ) (t : Tokenizer) where
    pub sticky_end : t.done ≡ Ended → run_with call s shift limit room t ≡ stopped Ended t
    unfolding run_with step_with
    sticky_end d =
        let e : step_with call s shift limit t ≡ record { what = End; next = t; gap_depth = 0 } = rw d in
        turn_end (length s) room t (ap (λ (x : Stepped). x.what) e) ∙ ap (λ (x : Stepped). ending x.gap_depth x.next) e

    pub sticky_error : (z : Refusal) → t.done ≡ Refused z → run_with call s shift limit room t ≡ stopped (Refused z) t
    unfolding run_with step_with
    sticky_error z d =
        let e : step_with call s shift limit t ≡ record { what = Error z; next = t; gap_depth = 0 } = rw d in
        turn_error (length s) room t z (ap (λ (x : Stepped). x.what) e) ∙ ap (λ (x : Stepped). stopped (Refused z) x.next) e

  -- a tokenizer keeps its reading
  by_reading : (t : Tokenizer) (x : Call) → (step_by shift limit t x).next.reading ≡ t.reading
  by_reading t x = go (ltb limit (t.count + x.advances)) refl
    where
      go : (b : Bool) → ltb limit (t.count + x.advances) ≡ b → (step_by shift limit t x).next.reading ≡ t.reading
      go true q = rw q
      go false q = rw q

  in_reading_lem : (d : Outcome) (t : Tokenizer) → (step_in_with call d s shift limit t).next.reading ≡ t.reading
  in_reading_lem Running t = by_reading t (call t.reading (chars (drop t.at s)) t.at)
  in_reading_lem Ended t = refl
  in_reading_lem (Refused z) t = refl

  pub step_reading : (t : Tokenizer) → (step_with call s shift limit t).next.reading ≡ t.reading
  unfolding step_with
  step_reading t = in_reading_lem t.done t

  pub from_reading : (k room : ℕ) (t : Tokenizer) → (run_from_with call s shift limit k room t).state.reading ≡ t.reading
  unfolding run_from_with
  from_reading zero room t = refl
  from_reading (suc k) room t = go (λ m u. from_reading k m u) (step_with call s shift limit t).what refl
    where
      Again : Type 0
      Again = (m : ℕ) (u : Tokenizer) → (run_from_with call s shift limit k m u).state.reading ≡ u.reading

      some : Again → (y : Token) → (step_with call s shift limit t).what ≡ Got y → (b : Bool) → ltb 0 room ≡ b → (run_from_with call s shift limit (suc k) room t).state.reading ≡ t.reading
      some ih y e true q = rw (turn_got k room t y e q) (ih (room - 1) (step_with call s shift limit t).next ∙ step_reading t)
      some ih y e false q = rw (turn_full k room t y e q)

      go : Again → (w : What) → (step_with call s shift limit t).what ≡ w → (run_from_with call s shift limit (suc k) room t).state.reading ≡ t.reading
      go ih (Got y) e = some ih y e (ltb 0 room) refl
      go ih (Error z) e = rw (turn_error k room t z e) (step_reading t)
      go ih End e = rw (turn_end k room t e) (step_reading t)

  pub run_reading : (room : ℕ) (t : Tokenizer) → (run_with call s shift limit room t).state.reading ≡ t.reading
  unfolding run_with
  run_reading room t = from_reading (suc (length s)) room t

  -- a run delivers no more tokens than there is room for
  pub room-from : (k room : ℕ) (t : Tokenizer) → length (run_from_with call s shift limit k room t).tokens ≤ room
  unfolding run_from_with
  room-from zero room t = omega arith
  room-from (suc k) room t = go (room-from k (room - 1)) (step_with call s shift limit t).what refl
    where
      Again : Type 0
      Again = (u : Tokenizer) → length (run_from_with call s shift limit k (room - 1) u).tokens ≤ room - 1

      some : Again → (y : Token) → (step_with call s shift limit t).what ≡ Got y → (b : Bool) → ltb 0 room ≡ b
          → length (run_from_with call s shift limit (suc k) room t).tokens ≤ room
      some ih y e true q = rw (turn_got k room t y e q) (let h = ih (step_with call s shift limit t).next in omega (tests, h))
      some ih y e false q = rw (turn_full k room t y e q) (omega arith)

      go : Again → (w : What) → (step_with call s shift limit t).what ≡ w → length (run_from_with call s shift limit (suc k) room t).tokens ≤ room
      go ih (Got y) e = some ih y e (ltb 0 room) refl
      go ih (Error z) e = rw (turn_error k room t z e) (omega arith)
      go ih End e = rw (turn_end k room t e) (omega arith)
