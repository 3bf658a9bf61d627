-- What the steps of a run stand on: the checks leave room for every place, and a call stays in the text.
use Rattle.std.specs.Prelude.{ℕ, ◌+◌, ◌-◌, ◌≤◌, ◌<◌, Bool, true, false, ◌&&◌, ◌||◌, List, ◌≡◌, refl, eqb, ltb, length, Ok}
use Rattle.std.proofs.Common.{arith, ap, ◌∙◌}
use Rattle.utf8.specs.Picks.{tests}
use Rattle.utf8.specs.Utf8.{boundary}
use Rattle.record.specs.Allowed.{allowed}
use Rattle.record.specs.Checks.{checks}
use Rattle.record.specs.declared.Refusal.{Refusal}
use Rattle.record.specs.declared.Token.{Token}
use Rattle.scan.specs.Until.{left}
use Rattle.reading.proofs.Inside.{Inside, InsideIn, next-inside}
use Rattle.reading.specs.Next.{next}
use Rattle.reading.specs.Run.{done_by, step, step_by, step_in, step_with}
use Rattle.reading.proofs.Steps.{call-within}
use Rattle.reading.specs.declared.Outcome.{Outcome}
use Rattle.reading.specs.declared.Outcome.TheVariants.{Ended, Refused, Running}
use Rattle.reading.specs.declared.Tokenizer.{Tokenizer}
use Rattle.reading.specs.declared.What.{What}
use Rattle.reading.specs.declared.What.TheVariants.{End, Error, Got}
use Rattle.run.specs.Payload.{is_payload}
use Rattle.run.specs.Room.{Ready, Roomy, RoomyIn}

-- a boundary lies in the text
pub boundary-within : (s : List ℕ) (p : ℕ) → boundary s p ≡ true → p ≤ length s
boundary-within s p e = go (eqb p (length s)) (ltb p (length s)) refl refl
  where
    go : (t u : Bool) → eqb p (length s) ≡ t → ltb p (length s) ≡ u → p ≤ length s
    go true u a b = omega tests
    go false true a b = omega tests
    go false false a b = let z : false ≡ true = rw (a, b) at e in let w : ◌≡◌ {A = ℕ} 0 1 = cc in absurd (omega arith)

pub ready_of : (s : List ℕ) (shift : ℕ) (t : Tokenizer) → checks s shift ≡ (Ok tt) → boundary s t.at ≡ true → Ready s shift t
ready_of s shift t e b =
    let a = allowed s shift e in
    let f = a.fits in
    record { fits = omega arith; within = boundary-within s t.at b }

roomy_in : (s : List ℕ) (shift o p : ℕ) (w : What) → shift + length s < 0x10000000000000000 → p ≤ length s → InsideIn o p w → RoomyIn shift w
roomy_in s shift o p (Got t) f l i = (omega (arith, i.1, i.2, i.3, i.4), omega (arith, i.1, i.2, i.3, i.4), omega (arith, i.1, i.2, i.3, i.4), omega (arith, i.1, i.2, i.3, i.4))
roomy_in s shift o p (Error r) f l i = omega (arith, i.0, i.1)
roomy_in s shift o p End f l i = tt

module _ (s : List ℕ) (shift limit : ℕ) (t : Tokenizer) (r : Ready s shift t) where
  -- every place of a call's answer takes the shift
  pub call_roomy : Roomy shift (next t.reading (left s t.at) t.at).what
  call_roomy =
      let x = next t.reading (left s t.at) t.at in
      let w = call-within t.reading s t.at r.within in
      record { is = roomy_in s shift t.at x.at x.what r.fits w.room (next-inside t.reading (left s t.at) t.at).is }

  by_within : (step_by shift limit t (next t.reading (left s t.at) t.at)).next.at ≤ length s
  by_within = go (ltb limit (t.count + (next t.reading (left s t.at) t.at).advances)) refl
    where
      go : (b : Bool) → ltb limit (t.count + (next t.reading (left s t.at) t.at).advances) ≡ b → (step_by shift limit t (next t.reading (left s t.at) t.at)).next.at ≤ length s
      go true q = rw q r.within
      go false q = rw q (call-within t.reading s t.at r.within).room

  step_in_lem : (d : Outcome) → (step_in d s shift limit t).next.at ≤ length s
  step_in_lem Running = by_within
  step_in_lem Ended = r.within
  step_in_lem (Refused z) = r.within

  -- the tokenizer stays ready
  pub step_ready : Ready s shift (step s shift limit t).next
  unfolding step_with
  step_ready = record { fits = r.fits; within = step_in_lem t.done }

-- a tokenizer that is running reads on
pub step-running : (s : List ℕ) (shift limit : ℕ) (t : Tokenizer) → t.done ≡ Running → step s shift limit t ≡ step_by shift limit t (next t.reading (left s t.at) t.at)
unfolding step_with
step-running s shift limit t d = rw d

-- a token is no error, and not the end
pub got_error : {A : Type 0} (x : Token) (z : Refusal) → Error z ≡ Got x → A
got_error x z e = let w : ◌≡◌ {A = ℕ} 0 1 = cc in absurd (omega arith)

pub got_end : {A : Type 0} (x : Token) → End ≡ Got x → A
got_end x e = let w : ◌≡◌ {A = ℕ} 0 1 = cc in absurd (omega arith)

-- a token leaves the tokenizer running
module _ (s : List ℕ) (shift limit : ℕ) (t : Tokenizer) (y : Token) where
  by_runs : (step_by shift limit t (next t.reading (left s t.at) t.at)).what ≡ Got y → (step_by shift limit t (next t.reading (left s t.at) t.at)).next.done ≡ Running
  by_runs = go (ltb limit (t.count + (next t.reading (left s t.at) t.at).advances)) refl
    where
      go : (b : Bool) → ltb limit (t.count + (next t.reading (left s t.at) t.at).advances) ≡ b
          → (step_by shift limit t (next t.reading (left s t.at) t.at)).what ≡ Got y → (step_by shift limit t (next t.reading (left s t.at) t.at)).next.done ≡ Running
      go true q e = got_error y _ (rw q at e)
      go false q e = let f = rw q at e in rw q (ap done_by f)

  in_runs : (d : Outcome) → (step_in d s shift limit t).what ≡ Got y → (step_in d s shift limit t).next.done ≡ Running
  in_runs Running e = by_runs e
  in_runs Ended e = got_end y e
  in_runs (Refused z) e = got_error y z e

  pub step-runs : (step s shift limit t).what ≡ Got y → (step s shift limit t).next.done ≡ Running
  unfolding step_with
  step-runs e = in_runs t.done e

-- a payload's places lie in the text
pub record Ranged (s : List ℕ) (shift from to : ℕ) : Type 0 where
  pub low : shift ≤ from
  pub order : from ≤ to
  pub inside : to - shift ≤ length s

pub ranged : (s : List ℕ) (shift from to : ℕ) → is_payload s shift from to ≡ true → Ranged s shift from to
unfolding is_payload
ranged s shift from to e = go (ltb from shift) (ltb to from) (boundary s (from - shift)) refl refl refl
  where
    no : {A : Type 0} → false ≡ true → A
    no z = let w : ◌≡◌ {A = ℕ} 0 1 = cc in absurd (omega arith)

    go : (a b c : Bool) → ltb from shift ≡ a → ltb to from ≡ b → boundary s (from - shift) ≡ c → Ranged s shift from to
    go true b c p q r = no (rw p at e)
    go false true c p q r = no (rw (p, q) at e)
    go false false true p q r = record { low = omega tests; order = omega tests; inside = boundary-within s (to - shift) (rw (p, q, r) at e) }
    go false false false p q r = no (rw (p, q, r) at e)
