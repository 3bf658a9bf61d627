-- What a run reports of its count (specs/Runs.antt): what its calls pass.
use Rattle.std.specs.Prelude.{◌+◌, suc, ℕ, List, ◌≡◌, length, Result, Ok}
use Rattle.std.proofs.Common.{arith}
use Rattle.std.proofs.Math.Bool.{false}
use Rattle.std.proofs.Math.Path.{refl}
use Rattle.record.specs.Checks.{checks}
use Rattle.record.specs.declared.Reading.{Reading}
use Rattle.record.specs.declared.Refusal.{Refusal}
use Rattle.reading.specs.Answers.{start_in}
use Rattle.reading.specs.Run.{Run, run, run_with, stopped}
use Rattle.reading.specs.declared.Outcome.TheVariants.{Refused}
use Rattle.run.specs.Checked.{count_if, whole_run}
use Rattle.ledger.specs.Codes.{is_error}
use Rattle.ledger.proofs.Spent.{spent-run}
use Rattle.ledger.specs.Runs.{none, whole_by}
use Rattle.ledger.specs.Spent.{final_call, spent}

module _ (rd : Reading) (s : List ℕ) (shift limit room : ℕ) where
  abbrev Counts : Result Unit Refusal → Run → Type 0
  Counts c r = count_if c r.state.count ≡ spent rd s (length r.tokens + final_call r.how) 0

  read-counts : Counts (Ok tt) (run s shift limit room (start_in rd))
  unfolding run_with
  read-counts = let h = spent-run s shift limit (suc (length s)) room (start_in rd) refl in omega (arith, h)

  none-counts : (c : Result Unit Refusal) (z : Refusal) → is_error z.code ≡ false → Counts c (stopped (Refused z) (start_in rd))
  unfolding spent
  none-counts c z q = rw (q, none rd s shift limit room c)

  pub spent_law : Counts (checks s shift) (whole_run s shift limit room (start_in rd))
  spent_law = whole_by rd s shift limit room Counts (λ p. read-counts) none-counts
