-- THE OLD DEFINITION IS THE MAP OF THE NEW, for every text and in either reading: of one call, of the public single call, and of a whole run. So demand 2, read with the finer two codes mapped back
-- to 1, speaks of 01's own definition. Each theorem of a public call takes what its contract allows.
use Rattle.std.specs.Prelude.{ℕ, List, ◌≡◌, refl, length}
use Rattle.std.proofs.Common.{◌∙◌, ap, sym}
use Rattle.record.specs.Records.{over}
use Rattle.record.specs.declared.Reading.{Reading}
use Rattle.record.specs.declared.Token.{Token}
use Rattle.reading.specs.Answers.{start_in}
use Rattle.reading.specs.Next.{next}
use Rattle.reading.specs.Run.{Run}
use Rattle.reading.specs.declared.Stepped.{Stepped}
use Rattle.reading.specs.declared.Tokenizer.{Tokenizer}
use Rattle.reading.specs.declared.What.{What}
use Rattle.run.specs.Checked.{next_token_with, ran_with, whole_run_with}
use Rattle.run.specs.declared.Ran.{Ran}
use Rattle.callers.specs.PublicCalls.{Nexts, RunsFrom}
use Rattle.unknown.specs.Calls.{next-mapped}
use Rattle.unknown.specs.Map.{rust_call, rust_ran, rust_tokenizer, rust_what}
use Rattle.unknown.specs.Runs.{ran-mapped, single-mapped, whole-mapped}
use Rattle.unknown.specs.Rust as rust

-- ONE CALL
pub one-call : (rd : Reading) (cs : List ℕ) (at : ℕ) → rust.next rd cs at ≡ rust_call (next rd cs at)
one-call rd cs at = (next-mapped rd cs at).is

-- a tokenizer at a text's start is the same in both
pub same_start : (rd : Reading) → rust_tokenizer (start_in rd) ≡ start_in rd
same_start rd = refl

-- THE SINGLE CALL: what `run::next` answers and leaves, mapped, is what the old definition answers and leaves
pub single-call : (s : List ℕ) (shift limit : ℕ) (t : Tokenizer) (r : What) (u : Tokenizer) → Nexts s shift limit t r u
    → (rust_what r ≡ (next_token_with rust.next s shift limit (rust_tokenizer t)).what) × (rust_tokenizer u ≡ (next_token_with rust.next s shift limit (rust_tokenizer t)).next)
single-call s shift limit t r u c =
    let e = sym (single-mapped rust.next next one-call s shift limit t) in
    (ap rust_what c.0 ∙ ap (λ (x : Stepped). x.what) e, ap rust_tokenizer c.1 ∙ ap (λ (x : Stepped). x.next) e)

-- A WHOLE RUN: what `run::run` answers, mapped, is what the old definition answers, and the lent list holds its tokens
pub whole_run_lem : (s : List ℕ) (shift limit : ℕ) (t : Tokenizer) (before : List Token) (r : Ran) (after : List Token) → RunsFrom s shift limit t before r after
    → (rust_ran r ≡ ran_with rust.next s shift limit (length before) (rust_tokenizer t))
    × (after ≡ over (whole_run_with rust.next s shift limit (length before) (rust_tokenizer t)).tokens before)
whole_run_lem s shift limit t before r after c = (
  ap rust_ran c.0 ∙ sym (ran-mapped rust.next next one-call s shift limit (length before) t),
  c.1 ∙ ap (λ (x : Run). over x.tokens before) (sym (whole-mapped rust.next next one-call s shift limit (length before) t)),
)
