-- THE BOOKS FROM ANY TOKENIZER. What ledger/specs/Books says of a run from the start of a text, of every run from a tokenizer that a caller has and
-- that runs: the books then speak of what was left, the text from its cursor on. (One that has ended is repeated: Repeating.)
use Rattle.std.specs.Prelude.{ℕ, suc, ◌*◌, ◌+◌, ◌-◌, ◌≤◌, List, ◌≡◌, drop, Result, Ok, Err}
use native.Mathlib.Omega.{arith}
use Rattle.std.proofs.Math.Path.{refl, ap}
use Rattle.std.proofs.Common.{sym, ◌∙◌}
use Rattle.std.proofs.Math.ListN.{length}
use Rattle.utf8.proofs.Laws.{boundary-whole}
use Rattle.utf8.specs.Utf8.{chars, reach}
use Rattle.record.specs.Allowed.{allowed}
use Rattle.record.specs.Checks.{checks}
use Rattle.record.specs.declared.Token.{Token}
use Rattle.reading.proofs.Ledger.{bounds, counts as counted, tiles}
use Rattle.reading.specs.Measures.{Tiled, attempts}
use Rattle.reading.specs.Run.{Run, run, run_with}
use Rattle.reading.proofs.Story.{tell}
use Rattle.reading.specs.Sums.{weight_is}
use Rattle.reading.specs.declared.Outcome.TheVariants.{Ended, Running}
use Rattle.reading.specs.declared.Tokenizer.{Tokenizer}
use Rattle.run.specs.Checked.{ran_with}
use Rattle.run.specs.declared.Ran.{Ran}
use Rattle.ledger.specs.Books.{B, H, N, held}
use Rattle.ledger.specs.Order.{found}
use Rattle.ledger.proofs.Spent.{spent-run}
use Rattle.ledger.specs.Spent.{final_call, spent}
use Rattle.callers.specs.PublicCalls.{Kept, RunsFrom}
use Rattle.callers.specs.Cursors.{kept-boundary}
use Rattle.callers.specs.Refusals.{refused_run}
use Rattle.callers.specs.Repeated.{counts, whole_is}
use Rattle.callers.proofs.Repeating.{run_settled}
use Rattle.record.specs.declared.Refusal.{Refusal}

module _ (s : List ℕ) (shift limit : ℕ) (t : Tokenizer) (kept : Kept s t) (runs : t.done ≡ Running)
    (before : List Token) (r : Ran) (after : List Token) (contract : RunsFrom s shift limit t before r after) where
  -- what was left
  abbrev rest : List ℕ
  rest = drop t.at s

  -- the run that is read, where the checks pass
  abbrev inner : Run
  inner = run s shift limit (length before) t

  module _ (p : checks s shift ≡ (Ok tt)) where
    tokens_are : held r after ≡ inner.tokens
    tokens_are = found s shift limit before after t r contract ∙ ap (λ (x : Run). x.tokens) (whole_is s shift limit (length before) t p (kept-boundary s shift kept p))

    how_is : r.how ≡ inner.how
    unfolding ran_with
    how_is = ap (λ (x : Ran). x.how) contract.0 ∙ ap (λ (x : Run). x.how) (whole_is s shift limit (length before) t p (kept-boundary s shift kept p))

    stored_is : r.stored ≡ length inner.tokens
    unfolding ran_with
    stored_is = ap (λ (x : Ran). x.stored) contract.0 ∙ ap (λ (x : Run). length x.tokens) (whole_is s shift limit (length before) t p (kept-boundary s shift kept p))

    count_is : r.advances ≡ inner.state.count
    unfolding ran_with
    count_is =
        counts s shift limit t before r after contract p ∙ ap (λ (x : Ran). x.state.count) contract.0
        ∙ ap (λ (x : Run). x.state.count) (whole_is s shift limit (length before) t p (kept-boundary s shift kept p))

  passed : r.how ≡ Ended → checks s shift ≡ Ok tt
  passed e = (run_settled s shift limit t before r after contract (rw e refl)).passed

  -- 1. In a run that reaches the end, the gaps, the token spans and the dropped characters tile what was left; and it is read to its last byte.
  pub one_place_from : r.how ≡ Ended → Tiled t.reading shift (chars rest) t.at (held r after) × (reach (chars rest) t.at ≡ length s)
  unfolding run_with
  one_place_from e =
      let p = passed e in
      let h = tiles t.reading s shift (tell s shift limit (suc (length s)) (length before) t runs) (sym (how_is p) ∙ e) in
      (rw (tokens_are p) h, boundary-whole s t.at (allowed s shift p).valid (kept-boundary s shift kept p))

  -- 2. In such a run the advances grow by the characters that were left and by those of the failed attribute attempts.
  pub advances_add_up_from : r.how ≡ Ended → r.advances ≡ t.count + N rest + attempts s shift (held r after)
  unfolding run_with
  advances_add_up_from e =
      let p = passed e in
      let h = counted t.reading s shift (tell s shift limit (suc (length s)) (length before) t runs) (sym (how_is p) ∙ e) in
      rw (tokens_are p) (count_is p ∙ h)

  -- 3. In every run, whatever stops it.
  pub advances_bound-from : r.advances ≤ t.count + N rest + 2 * (H rest - B rest) + B rest * N rest
  unfolding run_with
  advances_bound-from = go (checks s shift) refl
    where
      go : (c : Result Unit Refusal) → checks s shift ≡ c → r.advances ≤ t.count + N rest + 2 * (H rest - B rest) + B rest * N rest
      go (Ok tt) p =
          let h = bounds t.reading s shift (N rest) (tell s shift limit (suc (length s)) (length before) t runs) (omega arith) in
          let w = weight_is (N rest) (chars rest) in
          omega (arith, h, w, count_is p)
      go (Err z) p = let h = (refused_run s shift limit t z p before r after contract).0 in let n : r.advances ≡ 0 = ap (λ (x : Ran). x.advances) h in omega arith

  -- 4. In every run that the checks let pass the count grows by what its calls pass by the definition.
  pub no_invention_from : checks s shift ≡ (Ok tt) → r.advances ≡ t.count + spent t.reading s (r.stored + final_call r.how) t.at
  unfolding run_with
  no_invention_from p = rw (stored_is p, how_is p) (count_is p ∙ spent-run s shift limit (suc (length s)) (length before) t runs)
