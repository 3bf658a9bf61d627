-- THE ORDER OF A RUN (specs/Order.antt). Tokens ascend, none is empty, no two overlap. Of every run, ended or stopped by an error, 14 or 15, with any
-- shift, limit and room, from any tokenizer.
use Prim.Native.Nat.{ℕ, zero, suc, ◌+◌, ◌≤◌, ◌<◌}
use Rattle.std.proofs.Common.{arith}
use Rattle.std.specs.Prelude.{List, [], ◌∷◌, get_or}
use Rattle.std.proofs.Math.ListN.{length}
use Rattle.record.specs.declared.Reading.{Reading}
use Rattle.record.specs.declared.Token.{Token}
use Rattle.scan.specs.Until.{left}
use Rattle.reading.specs.Next.{next}
use Rattle.reading.specs.Run.{run}
use Rattle.reading.specs.declared.Tokenizer.{Tokenizer}
use Rattle.run.specs.Checked.{whole_run}
use Rattle.run.specs.Steps.{boundary-within}
use Rattle.ledger.specs.Order.{Called, Ordered, end-within, end_on, not_empty, of_run, start-on}

-- ---- the tokens of calls, one after the other
module _ (rd : Reading) (s : List ℕ) (shift : ℕ) where
  ordered-from : (from at : ℕ) (ts : List Token) → from ≤ at → at ≤ length s → Called rd s shift at ts → Ordered (from + shift) (length s + shift) ts
  ordered-from from at [] f l c = tt
  ordered-from from at (x ∷ ts) f l c =
      let d = c.0 in
      let t = d.token in
      let a = start-on rd s at t d.got in
      let b = not_empty rd s at t d.got in
      let e = end_on rd s at t d.got in
      let w = end-within rd s at t d.got l in
      rw d.shifted (omega arith, omega arith, omega arith, ordered-from t.end (next rd (left s at) at).at ts e w c.1)

-- ---- THE THEOREMS
-- what Ordered says of any two tokens of a list
module _ (d : Token) where
  at_or_after : (from to : ℕ) (ts : List Token) (i : ℕ) → Ordered from to ts → i < length ts → from ≤ (get_or ts i d).start
  at_or_after from to [] i o l = absurd (omega arith)
  at_or_after from to (t ∷ ts) zero o l = o.0
  at_or_after from to (t ∷ ts) (suc i) o l =
      let h = at_or_after t.end to ts i o.3 (omega arith) in
      omega (arith, o.0, o.1)

  pub some : (from to : ℕ) (ts : List Token) (i : ℕ) → Ordered from to ts → i < length ts → (get_or ts i d).start < (get_or ts i d).end
  some from to [] i o l = absurd (omega arith)
  some from to (t ∷ ts) zero o l = o.1
  some from to (t ∷ ts) (suc i) o l = some t.end to ts i o.3 (omega arith)

  pub apart : (from to : ℕ) (ts : List Token) (i j : ℕ) → Ordered from to ts → i < j → j < length ts → (get_or ts i d).end ≤ (get_or ts j d).start
  apart from to [] i j o l m = absurd (omega arith)
  apart from to (t ∷ ts) i zero o l m = absurd (omega arith)
  apart from to (t ∷ ts) zero (suc j) o l m = at_or_after t.end to ts j o.3 (omega arith)
  apart from to (t ∷ ts) (suc i) (suc j) o l m = apart t.end to ts i j o.3 (omega arith) (omega arith)

module _ (s : List ℕ) (shift limit room : ℕ) (t : Tokenizer) where
  -- tokens ascend from the cursor on, none is empty, no two overlap, and none ends beyond the text
  pub ordered : Ordered (t.at + shift) (length s + shift) (whole_run s shift limit room t).tokens
  ordered =
      of_run s shift limit room t (λ ts. Ordered (t.at + shift) (length s + shift) ts) tt
      (λ a b c. ordered-from t.reading s shift t.at t.at (run s shift limit room t).tokens (omega arith) (boundary-within s t.at b) c)
