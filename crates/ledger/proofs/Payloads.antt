-- PAYLOADS (specs/Payloads.antt). Of every token of every run: its payload lies in its span, on boundaries of the text, so that its check passes.
use Rattle.std.specs.Prelude.{ℕ, zero, suc, ◌+◌, ◌-◌, ◌≤◌, ◌<◌, true, List, [], ◌∷◌, ◌≡◌, get_or, length, Ok}
use native.Mathlib.Omega.{arith}
use borrow.Author.Tests.{le-ltb}
use Rattle.utf8.proofs.Laws.{boundary-whole}
use Rattle.utf8.specs.Utf8.{boundary}
use Rattle.record.specs.declared.Reading.{Reading}
use Rattle.record.specs.declared.Token.{Token}
use Rattle.scan.specs.Until.{left}
use Rattle.reading.proofs.Inside.{EndsIn, InsideIn, next-inside}
use Rattle.reading.specs.Next.{next}
use Rattle.reading.specs.Reached.{Reached}
use Rattle.reading.specs.Run.{run, shift_token}
use Rattle.reading.proofs.Sums.{placed_far}
use Rattle.reading.specs.declared.Tokenizer.{Tokenizer}
use Rattle.reading.specs.declared.What.TheVariants.{Got}
use Rattle.run.specs.Checked.{whole_run}
use Rattle.run.specs.Payload.{is_payload, payload_check}
use Rattle.run.specs.Steps.{boundary-within}
use Rattle.ledger.specs.Order.{Called, of_run, placed}
use Rattle.ledger.specs.Payloads.{AllHeld, Held, On, on-boundary, on_far}

-- ---- so the payload of a call's token is one of the text
module _ (s : List ℕ) (shift : ℕ) where
  passes : (t : Token) → t.payload_start ≤ t.payload_end → boundary s t.payload_start ≡ true → boundary s t.payload_end ≡ true
      → payload_check s shift (shift_token shift t) ≡ Ok tt
  unfolding payload_check is_payload
  passes t l a b =
      let p : t.payload_start + shift - shift ≡ t.payload_start = omega arith in
      let q : t.payload_end + shift - shift ≡ t.payload_end = omega arith in
      rw (le-ltb (t.payload_start + shift) shift (omega arith), le-ltb (t.payload_end + shift) (t.payload_start + shift) (omega arith), p, q, a, b)

  held : (rd : Reading) (at : ℕ) (t : Token) → On s at → (next rd (left s at) at).what ≡ Got t → Held s shift (shift_token shift t)
  held rd at t o got =
      let i = next-inside rd (left s at) at in
      let h : InsideIn at (next rd (left s at) at).at (Got t) = rw got at i.is in
      let e : EndsIn (Reached (left s at) at) (Got t) = rw got at i.ends in
      let a = on-boundary s _ (on_far s at _ _ o e.0.far) in
      let b = on-boundary s _ (on_far s at _ _ o e.1.far) in
      record { from_start = omega (arith, h.1); forward = omega (arith, h.2); to_end = omega (arith, h.3); checked = passes t h.2 a b }

  all_held : (rd : Reading) (at : ℕ) (ts : List Token) → On s at → Called rd s shift at ts → AllHeld s shift ts
  all_held rd at [] o c = tt
  all_held rd at (x ∷ ts) o c =
      let d = c.0 in
      let f = placed_far rd _ _ _ _ _ (placed rd s at d.token d.got) in
      (rw d.shifted (held rd at d.token o d.got), all_held rd (next rd (left s at) at).at ts (on_far s at _ _ o f) c.1)

-- ---- THE THEOREM
pub payloads_held : (s : List ℕ) (shift limit room : ℕ) (t : Tokenizer) → AllHeld s shift (whole_run s shift limit room t).tokens
payloads_held s shift limit room t =
    of_run s shift limit room t (λ ts. AllHeld s shift ts) tt
    (λ a b c. all_held s shift t.reading t.at (run s shift limit room t).tokens (record { within = boundary-within s t.at b; whole = boundary-whole s t.at a.valid b }) c)

-- of the token at an index
pub held_at : (s : List ℕ) (shift : ℕ) (ts : List Token) (i : ℕ) (d : Token) → AllHeld s shift ts → i < length ts → Held s shift (get_or ts i d)
held_at s shift [] i d h l = absurd (omega arith)
held_at s shift (t ∷ ts) zero d h l = h.0
held_at s shift (t ∷ ts) (suc i) d h l = held_at s shift ts i d h.1 (omega arith)
