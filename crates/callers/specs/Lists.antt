-- THE LENT LIST. 01: "Records beyond the count are untouched." Of every run, from any tokenizer.
use Rattle.std.specs.Prelude.{ℕ, ◌≤◌, List, ◌≡◌, refl, drop, length}
use Rattle.std.proofs.Common.{arith, ◌∙◌, length-append, length-drop, drop_at}
use Rattle.std.proofs.Math.Path.{ap}
use Rattle.record.specs.declared.Token.{Token}
use Rattle.reading.specs.declared.Tokenizer.{Tokenizer}
use Rattle.run.specs.Checked.{ran_with, whole_run}
use Rattle.run.specs.declared.Ran.{Ran}
use Rattle.callers.specs.PublicCalls.{RunsFrom}
use Rattle.callers.specs.Repeated.{tells}

module _ (s : List ℕ) (shift limit : ℕ) (t : Tokenizer) (before : List Token) (r : Ran) (after : List Token) (c : RunsFrom s shift limit t before r after) where
  abbrev tokens : List Token
  tokens = (whole_run s shift limit (length before) t).tokens

  stored_is : r.stored ≡ length tokens
  unfolding ran_with
  stored_is = ap (λ (x : Ran). x.stored) c.0

  -- no more records are stored than the list has room for
  pub in_room : r.stored ≤ length before
  in_room = let h = (tells s shift limit (length before) t).fits in omega (arith, h, stored_is)

  -- those beyond the count are as they were
  pub untouched : drop r.stored after ≡ drop r.stored before
  untouched = rw (c.1, stored_is) (drop_at tokens (drop (length tokens) before) (length tokens) refl)

  -- and the list is as long as it was
  pub same_length : length after ≡ length before
  same_length =
      let h = in_room in
      let n = stored_is in
      ap length c.1 ∙ omega (arith, length-append tokens (drop (length tokens) before), length-drop (length tokens) before, h, n)
