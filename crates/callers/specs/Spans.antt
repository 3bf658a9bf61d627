-- TOKENS STAND ON BOUNDARIES: both ends of every token that a run stores, less the shift, from any tokenizer. So a span is a part of the text that is well formed.
use Rattle.std.specs.Prelude.{ℕ, zero, suc, ◌+◌, ◌-◌, ◌≤◌, ◌<◌, true, List, [], ◌∷◌, ◌≡◌, get_or, length}
use Rattle.std.proofs.Common.{arith}
use Rattle.utf8.proofs.Laws.{boundary-whole, bounded}
use Rattle.utf8.specs.Utf8.{boundary}
use Rattle.record.specs.declared.Reading.{Reading}
use Rattle.record.specs.declared.Token.{Token}
use Rattle.scan.specs.Far.{then}
use Rattle.scan.specs.Until.{left}
use Rattle.reading.specs.Next.{next}
use Rattle.reading.specs.Run.{run, shift_token}
use Rattle.reading.proofs.Sums.{placed_far}
use Rattle.reading.specs.declared.Tokenizer.{Tokenizer}
use Rattle.reading.specs.declared.What.TheVariants.{Got}
use Rattle.run.specs.Steps.{boundary-within}
use Rattle.run.specs.declared.Ran.{Ran}
use Rattle.ledger.specs.Books.{held}
use Rattle.ledger.specs.Order.{Called, found, of_run, placed}
use Rattle.ledger.specs.Payloads.{On, on_far}
use Rattle.callers.specs.PublicCalls.{RunsFrom}

pub record Spanned (s : List ℕ) (shift : ℕ) (t : Token) : Type 0 where
  pub shifted : shift ≤ t.start
  pub from : boundary s (t.start - shift) ≡ true
  pub to : boundary s (t.end - shift) ≡ true

abbrev pub AllSpanned : List ℕ → ℕ → List Token → Type 0
AllSpanned s shift [] = Unit {0}
AllSpanned s shift (t ∷ ts) = Spanned s shift t × AllSpanned s shift ts

module _ (s : List ℕ) (shift : ℕ) where
  on_shifted : (p : ℕ) → On s p → boundary s (p + shift - shift) ≡ true
  on_shifted p o = let e : p + shift - shift ≡ p = omega arith in rw e (bounded s p o.within o.whole)

  -- the gap leads to a token's start, and its characters to its end
  call_spanned : (rd : Reading) (at : ℕ) (t : Token) → On s at → (next rd (left s at) at).what ≡ Got t → Spanned s shift (shift_token shift t)
  call_spanned rd at t o g =
      let h = placed rd s at t g in
      let a = on_far s at _ t.start o h.gap_far in
      let b = on_far s at _ t.end o (then h.gapped (left s at) at t.start h.width t.end h.gap_far h.span) in
      record { shifted = omega arith; from = on_shifted t.start a; to = on_shifted t.end b }

  all_spanned : (rd : Reading) (at : ℕ) (ts : List Token) → On s at → Called rd s shift at ts → AllSpanned s shift ts
  all_spanned rd at [] o c = tt
  all_spanned rd at (x ∷ ts) o c =
      let d = c.0 in
      let f = placed_far rd _ _ _ _ _ (placed rd s at d.token d.got) in
      (rw d.shifted (call_spanned rd at d.token o d.got), all_spanned rd (next rd (left s at) at).at ts (on_far s at _ _ o f) c.1)

-- ---- THE THEOREM, of the records that a run holds, and of the one at an index
pub spanned : (s : List ℕ) (shift limit : ℕ) (t : Tokenizer) (before : List Token) (r : Ran) (after : List Token) → RunsFrom s shift limit t before r after → AllSpanned s shift (held r after)
spanned s shift limit t before r after c =
    rw (found s shift limit before after t r c)
    (of_run s shift limit (length before) t (λ ts. AllSpanned s shift ts) tt
    (λ a b d. all_spanned s shift t.reading t.at (run s shift limit (length before) t).tokens (record { within = boundary-within s t.at b; whole = boundary-whole s t.at a.valid b }) d))

pub spanned_at : (s : List ℕ) (shift : ℕ) (ts : List Token) (i : ℕ) (d : Token) → AllSpanned s shift ts → i < length ts → Spanned s shift (get_or ts i d)
spanned_at s shift [] i d h l = absurd (omega arith)
spanned_at s shift (t ∷ ts) zero d h l = h.0
spanned_at s shift (t ∷ ts) (suc i) d h l = spanned_at s shift ts i d h.1 (omega arith)
