-- The theorems about the definition of a run, brought to what a run reports: the three checks and the boundary come before the reading. What a run
-- counts is in proofs/Runs.antt.
use Rattle.std.specs.Prelude.{◌*◌, ◌+◌, ◌-◌, ◌≤◌, ℕ, Bool, cond, List, ◌≡◌, length, Result, Ok, Err}
use Rattle.std.proofs.Common.{arith}
use Rattle.std.proofs.Math.Bool.{false, true}
use Rattle.std.proofs.Math.Path.{refl}
use Rattle.utf8.specs.Laws.{valid_whole}
use Rattle.utf8.specs.Utf8.{boundary, chars, reach}
use Rattle.record.specs.Allowed.{allowed}
use Rattle.record.specs.Checks.{checks}
use Rattle.record.specs.Codes.{Refuses, checks-refuse}
use Rattle.record.specs.Records.{refusal}
use Rattle.record.specs.declared.Code.{Code}
use Rattle.record.specs.declared.Code.TheVariants.{BadRecord}
use Rattle.record.specs.declared.Reading.{Reading}
use Rattle.record.specs.declared.Refusal.{Refusal}
use Rattle.reading.specs.Answers.{start_in}
use Rattle.reading.proofs.Ledger.{advances_at-end, advances_bounded, stops, tiled_at-end}
use Rattle.reading.specs.Measures.{Tiled, attempts, hashes, marks}
use Rattle.reading.specs.Run.{Run, run, stopped}
use Rattle.reading.specs.declared.Outcome.TheVariants.{Ended, Refused, Running}
use Rattle.run.specs.Checked.{count_if, run_if, whole_run, whole_run_with}
use Rattle.ledger.specs.Codes.{is_error}

-- none of the checks' codes is an error of the reading
pub checks-other : (s : List ℕ) (shift : ℕ) → Refuses (λ (c : Code). is_error c ≡ false) (checks s shift)
checks-other s shift = checks-refuse (λ c. is_error c ≡ false) refl refl refl s shift

module _ (rd : Reading) (s : List ℕ) (shift limit room : ℕ) where
  -- a run that is read, or one that is refused before any reading
  pub whole_by : (P : Result Unit Refusal → Run → Type 0) → (checks s shift ≡ (Ok tt) → P (Ok tt) (run s shift limit room (start_in rd)))
      → ((c : Result Unit Refusal) (z : Refusal) → is_error z.code ≡ false → P c (stopped (Refused z) (start_in rd))) → P (checks s shift) (whole_run s shift limit room (start_in rd))
  unfolding whole_run_with
  whole_by P f g = go (checks s shift) refl (checks-other s shift)
    where
      by : (b : Bool) → checks s shift ≡ (Ok tt) → P (Ok tt) (cond b (run s shift limit room (start_in rd)) (stopped (Refused (refusal BadRecord 0)) (start_in rd)))
      by true e = f e
      by false e = g (Ok tt) (refusal BadRecord 0) refl

      go : (c : Result Unit Refusal) → checks s shift ≡ c → Refuses (λ (c : Code). is_error c ≡ false) (checks s shift) → P c (run_if c s shift limit room (start_in rd))
      go (Ok tt) e h = by (boundary s 0) e
      go (Err r) e h = g (Err r) r (rw e at h).is

  not-ended : {A : Type 0} (z : Refusal) → Refused z ≡ Ended → A
  not-ended z e = let w : ◌≡◌ {A = ℕ} 0 1 = cc in absurd (omega arith)

  -- at the end
  abbrev AtEnd : Result Unit Refusal → Run → Type 0
  AtEnd c r = r.how ≡ Ended
      → Tiled rd shift (chars s) 0 r.tokens × (count_if c r.state.count ≡ length (chars s) + attempts s shift r.tokens) × (reach (chars s) 0 ≡ length s)

  pub end_law : AtEnd (checks s shift) (whole_run s shift limit room (start_in rd))
  end_law =
      whole_by AtEnd (λ p e. (tiled_at-end rd s shift limit room e, advances_at-end rd s shift limit room e, valid_whole s (allowed s shift p).valid))
      (λ c z q e. not-ended z e)

  -- a run stops
  abbrev Over : Result Unit Refusal → Run → Type 0
  Over c r = r.how ≡ Running → ⊥

  not-running : (z : Refusal) → Refused z ≡ Running → ⊥
  not-running z e = let w : ◌≡◌ {A = ℕ} 0 1 = cc in omega arith

  pub over_law : Over (checks s shift) (whole_run s shift limit room (start_in rd))
  over_law = whole_by Over (λ p. stops rd s shift limit room) (λ c z q. not-running z)

  pub none : (c : Result Unit Refusal) → count_if c 0 ≡ 0
  none (Ok tt) = refl
  none (Err r) = refl

  -- in every run
  abbrev Bound : Result Unit Refusal → Run → Type 0
  Bound c r = count_if c r.state.count ≤ length (chars s) + 2 * (hashes (chars s) - marks (chars s)) + marks (chars s) * length (chars s)

  pub bound_law : Bound (checks s shift) (whole_run s shift limit room (start_in rd))
  bound_law = whole_by Bound (λ p. advances_bounded rd s shift limit room) (λ c z q. rw (none c) (omega arith))
