-- The count of a run is what its calls pass (specs/Spent.antt).
use Prim.Native.Nat.{◌+◌, ◌-◌, suc, zero, ℕ}
use native.Mathlib.Omega.{arith}
use Rattle.std.specs.Prelude.{Bool, List, [], ◌≡◌}
use Rattle.std.proofs.Math.Bool.{false, true}
use Rattle.std.proofs.Common.{◌∙◌}
use Rattle.std.proofs.Math.Path.{ap, refl, sym}
use Rattle.std.proofs.Math.Dec.{ltb}
use Rattle.std.proofs.Math.ListN.{length}
use Rattle.record.specs.Records.{refusal}
use Rattle.record.specs.declared.Code.TheVariants.{NoRoom, WorkLimit}
use Rattle.record.specs.declared.Token.{Token}
use Rattle.scan.specs.Until.{left}
use Rattle.reading.specs.Next.{next}
use Rattle.reading.specs.Run.{Run, also, done_by, run_from, run_from_with, shift_token, shift_what, step, stopped}
use Rattle.reading.proofs.Story.{call, run_end, run_error, run_full, run_got, step-on, step-over}
use Rattle.reading.specs.declared.Outcome.{Outcome}
use Rattle.reading.specs.declared.Outcome.TheVariants.{Ended, Refused, Running}
use Rattle.reading.specs.declared.Stepped.{Stepped}
use Rattle.reading.specs.declared.Tokenizer.{Tokenizer}
use Rattle.reading.specs.declared.What.{What}
use Rattle.reading.specs.declared.What.TheVariants.{End, Error, Got}
use Rattle.ledger.specs.Codes.{ErrorIn, is_error}
use Rattle.ledger.proofs.Codes.{next_errs}
use Rattle.ledger.specs.Spent.{Spends, final_call, spent}

module _ (s : List ℕ) (t : Tokenizer) where
  -- nothing is passed
  none : (how : Outcome) → final_call how ≡ 0 → Spends s t (stopped how t)
  unfolding spent
  none how e = rw e (omega arith)

  -- the final call
  one : (how : Outcome) (g : ℕ) (u : Tokenizer) → final_call how ≡ 1 → u.count ≡ t.count + (next t.reading (left s t.at) t.at).advances
      → Spends s t (record { tokens = []; how = how; state = u; last = g })
  unfolding spent
  one how g u e c = rw (e, c) (omega arith)

  -- a token's call
  first : (y : Token) (u : Tokenizer) (r : Run) → u.reading ≡ t.reading → u.at ≡ (next t.reading (left s t.at) t.at).at → u.count ≡ t.count + (next t.reading (left s t.at) t.at).advances
      → Spends s u r → Spends s t (also y r)
  unfolding spent
  first y u r v a c h =
      let z : length (also y r).tokens + final_call r.how ≡ suc (length r.tokens + final_call r.how) = omega arith in
      let g : u.count + spent t.reading s (length r.tokens + final_call r.how) u.at ≡ r.state.count = sym (rw v at h) in
      rw (z, ← a) (omega (arith, g, c))

module _ (s : List ℕ) (shift limit : ℕ) where
  spent-suc : (k room : ℕ) (t : Tokenizer) → t.done ≡ Running
      → ((m : ℕ) (u : Tokenizer) → u.done ≡ Running → Spends s u (run_from s shift limit k m u))
      → Spends s t (run_from s shift limit (suc k) room t)
  unfolding call
  spent-suc k room t d again = by (ltb limit (t.count + (call s shift limit t).advances)) refl
    where
      some : (b : Bool) → ltb 0 room ≡ b → (q : ltb limit (t.count + (call s shift limit t).advances) ≡ false) (y : Token) → (call s shift limit t).what ≡ Got y
          → Spends s t (run_from s shift limit (suc k) room t)
      some true z q y w =
          let e = step-on s shift limit t d q in
          let v : (step s shift limit t).what ≡ Got (shift_token shift y) = ap (λ (x : Stepped). x.what) e ∙ ap (shift_what shift) w in
          let u = (step s shift limit t).next in
          let r : u.done ≡ Running = ap (λ (x : Stepped). x.next.done) e ∙ ap (λ (x : What). done_by (shift_what shift x)) w in
          rw (run_got s shift limit k room t (shift_token shift y) v z)
          (first s t (shift_token shift y) u (run_from s shift limit k (room - 1) u) (ap (λ (x : Stepped). x.next.reading) e) (ap (λ (x : Stepped). x.next.at) e) (ap (λ (x : Stepped). x.next.count) e) (again (room - 1) u r))
      some false z q y w =
          let e = step-on s shift limit t d q in
          let v : (step s shift limit t).what ≡ Got (shift_token shift y) = ap (λ (x : Stepped). x.what) e ∙ ap (shift_what shift) w in
          rw (run_full s shift limit k room t (shift_token shift y) v z) (none s t (Refused (refusal NoRoom (y.start + shift))) refl)

      on : ltb limit (t.count + (call s shift limit t).advances) ≡ false → (w : What) → (call s shift limit t).what ≡ w → ErrorIn (call s shift limit t).what
          → Spends s t (run_from s shift limit (suc k) room t)
      on q (Got y) w h = some (ltb 0 room) refl q y w
      on q (Error z) w h =
          let e = step-on s shift limit t d q in
          let l : is_error z.code ≡ true = rw w at h in
          rw (run_error s shift limit k room t (refusal z.code (z.place + shift)) (ap (λ (x : Stepped). x.what) e ∙ ap (shift_what shift) w))
          (one s t (Refused (refusal z.code (z.place + shift))) 0 (step s shift limit t).next (rw l) (ap (λ (x : Stepped). x.next.count) e))
      on q End w h =
          let e = step-on s shift limit t d q in
          rw (run_end s shift limit k room t (ap (λ (x : Stepped). x.what) e ∙ ap (shift_what shift) w))
          (one s t Ended (step s shift limit t).gap_depth (step s shift limit t).next refl (ap (λ (x : Stepped). x.next.count) e))

      by : (b : Bool) → ltb limit (t.count + (call s shift limit t).advances) ≡ b → Spends s t (run_from s shift limit (suc k) room t)
      by true q =
          let e = step-over s shift limit t d q in
          rw (run_error s shift limit k room t (refusal WorkLimit (t.at + shift)) (ap (λ (x : Stepped). x.what) e), ap (λ (x : Stepped). x.next) e)
          (none s t (Refused (refusal WorkLimit (t.at + shift))) refl)
      by false q = on q (call s shift limit t).what refl (next_errs t.reading (left s t.at) t.at).is

  pub spent-run : (k room : ℕ) (t : Tokenizer) → t.done ≡ Running → Spends s t (run_from s shift limit k room t)
  unfolding run_from_with
  spent-run zero room t d = none s t Running refl
  spent-run (suc k) room t d = spent-suc k room t d (λ m u. spent-run k m u)
