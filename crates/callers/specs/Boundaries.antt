-- A single call leaves the cursor on a boundary, if it was on one.
use Rattle.std.specs.Prelude.{ℕ, true, List, ◌≡◌, Ok}
use Rattle.utf8.proofs.Laws.{boundary-whole, bounded}
use Rattle.utf8.specs.Utf8.{boundary}
use Rattle.record.specs.Allowed.{allowed}
use Rattle.record.specs.Checks.{checks}
use Rattle.record.specs.declared.Reading.{Reading}
use Rattle.scan.specs.Far.{Far}
use Rattle.scan.specs.Until.{left}
use Rattle.reading.proofs.CallLaw.{LaidIn, next-laid}
use Rattle.reading.specs.Next.{next}
use Rattle.reading.specs.Passes.{gap_sound}
use Rattle.reading.proofs.Sums.{placed_far}
use Rattle.reading.specs.declared.Tokenizer.{Tokenizer}
use Rattle.reading.specs.declared.What.{What}
use Rattle.reading.specs.declared.What.TheVariants.{End, Error, Got}
use Rattle.run.specs.Checked.{next_token}
use Rattle.run.specs.Steps.{boundary-within}
use Rattle.ledger.specs.Payloads.{On, on_far}
use Rattle.callers.specs.Single.{Single, end_kept, error_kept, limited, off, read, refused, single}

-- ---- a call of the reading passes whole characters, so that from a character's first byte it comes to one
module _ (rd : Reading) (s : List ℕ) (at : ℕ) (o : On s at) where
  by_laid : (p n : ℕ) (w : What) → LaidIn rd (left s at) at p n w → On s p
  by_laid p n (Got t) h = on_far s at _ p o (placed_far rd (left s at) at t p n h)
  by_laid p n (Error r) h = on_far s at n p o h
  by_laid p n End h =
      let f : Far (left s at) at n p = (rw h.0 at (gap_sound (left s at) at)).is in
      on_far s at n p o f

  call-on : On s (next rd (left s at) at).at
  call-on = let x = next rd (left s at) at in by_laid x.at x.advances x.what (next-laid rd (left s at) at).is

-- a boundary of a text that passed the checks is such a byte, or the end
pub on_of : (s : List ℕ) (shift p : ℕ) → checks s shift ≡ (Ok tt) → boundary s p ≡ true → On s p
on_of s shift p e b = record { within = boundary-within s p b; whole = boundary-whole s p (allowed s shift e).valid b }

-- ---- so of the single call: what is not read leaves the cursor where it was
pub next-boundary : (s : List ℕ) (shift limit : ℕ) (t : Tokenizer) → boundary s t.at ≡ true → boundary s (next_token s shift limit t).next.at ≡ true
next-boundary s shift limit t b = go (single s shift limit t)
  where
    go : Single s shift limit t (next_token s shift limit t) → boundary s (next_token s shift limit t).next.at ≡ true
    go (refused z c e) = rw e b
    go (off c n e) = rw e b
    go (error_kept z h e) = rw e b
    go (end_kept h e) = rw e b
    go (limited h l e) = rw e b
    go (read h l e) = let o = call-on t.reading s t.at (on_of s shift t.at h.passed b) in rw e (bounded s _ o.within o.whole)
