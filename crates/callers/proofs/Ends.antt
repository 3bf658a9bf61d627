-- AFTER THE END the tokenizer's cursor is the text's length: of a call that answers the end, and of a run.
use Rattle.std.specs.Prelude.{ℕ, List, ◌≡◌, refl, length}
use Rattle.std.proofs.Common.{sym, ap, ◌∙◌}
use Rattle.record.specs.declared.Token.{Token}
use Rattle.reading.specs.Run.{done_by}
use Rattle.reading.specs.declared.Outcome.TheVariants.{Ended}
use Rattle.reading.specs.declared.Tokenizer.{Tokenizer}
use Rattle.reading.specs.declared.What.{What}
use Rattle.reading.specs.declared.What.TheVariants.{End}
use Rattle.run.specs.Checked.{next_token}
use Rattle.run.specs.declared.Ran.{Ran}
use Rattle.callers.specs.PublicCalls.{Kept, Nexts, RunsFrom, called, ran}
use Rattle.callers.proofs.Repeating.{next_settled, run_settled}
use Rattle.callers.specs.Ends.{kept-end}

module _ (s : List ℕ) (shift limit : ℕ) (t : Tokenizer) (k : Kept s t) where
  -- of a single call that answers the end
  pub next-end : (u : Tokenizer) → Nexts s shift limit t End u → u.at ≡ length s
  next-end u c =
      let f : done_by (next_token s shift limit t).what ≡ Ended = ap (λ (w : What). done_by w) (sym c.0) in
      let d = next_settled s shift limit t (rw f refl) in
      kept-end s (called {r = End} shift limit k c) (ap (λ (x : Tokenizer). x.done) c.1 ∙ d.is ∙ f)

  -- and of a run
  pub run_end : (before : List Token) (r : Ran) (after : List Token) → RunsFrom s shift limit t before r after → r.how ≡ Ended → r.state.at ≡ length s
  run_end before r after c e = kept-end s (ran shift limit before after k c) ((run_settled s shift limit t before r after c (rw e refl)).is ∙ e)
