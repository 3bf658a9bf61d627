-- EVERY CALL LEAVES THE TOKENIZER IN ITS READING: `run::next`, `run::run`, whatever they answer. So a caller that chose one keeps it, call after call.
use Rattle.std.specs.Prelude.{ℕ, List, ◌≡◌, refl}
use Rattle.std.proofs.Common.{◌∙◌, ap}
use Rattle.record.specs.declared.Reading.{Reading}
use Rattle.record.specs.declared.Token.{Token}
use Rattle.reading.specs.declared.Tokenizer.{Tokenizer}
use Rattle.reading.specs.declared.What.{What}
use Rattle.run.specs.Checked.{next_token}
use Rattle.run.specs.declared.Ran.{Ran}
use Rattle.callers.specs.PublicCalls.{Nexts, RunsFrom}
use Rattle.callers.specs.Cursors.{by_run}
use Rattle.callers.specs.Single.{Single, end_kept, error_kept, limited, off, read, refused, single}

next-stays : (s : List ℕ) (shift limit : ℕ) (t : Tokenizer) → (next_token s shift limit t).next.reading ≡ t.reading
next-stays s shift limit t = go (single s shift limit t)
  where
    go : Single s shift limit t (next_token s shift limit t) → (next_token s shift limit t).next.reading ≡ t.reading
    go (refused z c e) = rw e
    go (off c n e) = rw e
    go (error_kept z h e) = rw e
    go (end_kept h e) = rw e
    go (limited h l e) = rw e
    go (read h l e) = rw e

-- of the single call
pub next_in_reading : (s : List ℕ) (shift limit : ℕ) (t : Tokenizer) (r : What) (u : Tokenizer) → Nexts s shift limit t r u → u.reading ≡ t.reading
next_in_reading s shift limit t r u c = ap (λ (x : Tokenizer). x.reading) c.1 ∙ next-stays s shift limit t

-- of a whole run
pub run_in_reading : (s : List ℕ) (shift limit : ℕ) (t : Tokenizer) (before : List Token) (r : Ran) (after : List Token) → RunsFrom s shift limit t before r after → r.state.reading ≡ t.reading
run_in_reading s shift limit t before r after c =
    by_run s (λ u. u.reading ≡ t.reading) (λ shift' limit' u h. next-stays s shift' limit' u ∙ h) shift limit t before r after c refl
