-- AFTER THE END the tokenizer's cursor is the text's length, of every tokenizer that a caller has.
use Rattle.std.specs.Prelude.{ℕ, List, ◌≡◌, refl, length}
use Rattle.std.proofs.Common.{arith, ◌∙◌}
use Rattle.record.specs.declared.Reading.{Reading}
use Rattle.scan.specs.Far.{Far}
use Rattle.scan.specs.Until.{left}
use Rattle.reading.proofs.CallLaw.{LaidIn, next-laid}
use Rattle.reading.specs.Next.{next}
use Rattle.reading.specs.Passes.{gap_sound}
use Rattle.reading.specs.Run.{done_by, shift_what}
use Rattle.reading.specs.Sums.{far_whole}
use Rattle.reading.specs.declared.Outcome.TheVariants.{Ended}
use Rattle.reading.specs.declared.Tokenizer.{Tokenizer}
use Rattle.reading.specs.declared.What.{What}
use Rattle.reading.specs.declared.What.TheVariants.{End, Error, Got}
use Rattle.run.specs.Checked.{next_token}
use Rattle.ledger.specs.Payloads.{On}
use Rattle.callers.specs.Boundaries.{on_of}
use Rattle.callers.specs.PublicCalls.{Kept}
use Rattle.callers.specs.Cursors.{by_kept}
use Rattle.callers.specs.Single.{Single, call_of, end_kept, error_kept, limited, off, read, refused, single}

-- ---- a call of the reading that answers the end has passed all that was left
module _ (rd : Reading) (s : List ℕ) (at : ℕ) (o : On s at) where
  by_end : (p n : ℕ) (w : What) → LaidIn rd (left s at) at p n w → w ≡ End → p ≡ length s
  by_end p n (Got t) h e = let q : ◌≡◌ {A = ℕ} 0 1 = cc in absurd (omega arith)
  by_end p n (Error r) h e = let q : ◌≡◌ {A = ℕ} 0 1 = cc in absurd (omega arith)
  by_end p n End h e =
      let f : Far (left s at) at n p = (rw h.0 at (gap_sound (left s at) at)).is in
      let g : Far (left s at) at (length (left s at)) p = rw h.1 at f in
      far_whole (left s at) at p g ∙ o.whole

  end-at : (next rd (left s at) at).what ≡ End → (next rd (left s at) at).at ≡ length s
  end-at e = let x = next rd (left s at) at in by_end x.at x.advances x.what (next-laid rd (left s at) at).is e

-- ---- so of the single call
abbrev AtEnd : List ℕ → Tokenizer → Type 0
AtEnd s u = u.done ≡ Ended → u.at ≡ length s

said-end : (shift : ℕ) (w : What) → done_by (shift_what shift w) ≡ Ended → w ≡ End
said-end shift (Got t) e = let q : ◌≡◌ {A = ℕ} 0 1 = cc in absurd (omega arith)
said-end shift (Error r) e = let q : ◌≡◌ {A = ℕ} 0 1 = cc in absurd (omega arith)
said-end shift End e = refl

next-at : (s : List ℕ) (shift limit : ℕ) (t : Tokenizer) → AtEnd s t → AtEnd s (next_token s shift limit t).next
next-at s shift limit t h = go (single s shift limit t)
  where
    go : Single s shift limit t (next_token s shift limit t) → AtEnd s (next_token s shift limit t).next
    go (refused z c e) = rw e h
    go (off c n e) = rw e h
    go (error_kept z k e) = rw e h
    go (end_kept k e) = rw e h
    go (limited k l e) = rw e h
    go (read k l e) = rw e (λ d. end-at t.reading s t.at (on_of s shift t.at k.passed k.on) (said-end shift (call_of s t).what d))

-- ---- THE THEOREMS
pub kept-end : (s : List ℕ) {t : Tokenizer} → Kept s t → t.done ≡ Ended → t.at ≡ length s
kept-end s k = by_kept s (AtEnd s) (next-at s) (λ rd e. let q : ◌≡◌ {A = ℕ} 0 1 = cc in absurd (omega arith)) k
