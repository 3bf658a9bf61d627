-- `run::run_numbers`, WHOSE LIST IS LENT AS PLAIN NUMBERS, five to a record: beside a list of records with as much room it is a run of `run::run`, so that all
-- that is said here of runs is said of it too.
use Rattle.std.specs.Prelude.{ℕ, zero, suc, ◌/◌, List, [], ◌∷◌, ◌≡◌, refl, length}
use Rattle.std.proofs.Common.{sym, ap}
use Rattle.record.specs.Records.{over, token_of}
use Rattle.record.specs.declared.Kind.TheVariants.{Enum}
use Rattle.record.specs.declared.Token.{Token}
use Rattle.reading.specs.declared.Tokenizer.{Tokenizer}
use Rattle.run.specs.Checked.{ran_of, whole_run}
use Rattle.run.specs.Numbers.{group_size, numbers_all}
use Rattle.run.specs.declared.Ran.{Ran}
use Rattle.ledger.specs.Books.{held}
use Rattle.ledger.specs.Order.{found}
use Rattle.callers.specs.PublicCalls.{Kept, RunsFrom, ran}

-- the contract of `run::run_numbers` from the tokenizer t, word for word
abbrev pub RunsNumbersFrom : List ℕ → ℕ → ℕ → Tokenizer → List ℕ → Ran → List ℕ → Type 0
RunsNumbersFrom s shift limit t before r after =
    (r ≡ ran_of s shift limit (length before / group_size) t) × (after ≡ over (numbers_all (whole_run s shift limit (length before / group_size) t).tokens) before)

-- a list of records with room for n
blank : ℕ → List Token
blank zero = []
blank (suc n) = token_of Enum 0 0 0 0 ∷ blank n

blank-length : (n : ℕ) → length (blank n) ≡ n
unfolding blank
blank-length zero = refl
blank-length (suc n) = ap suc (blank-length n)

module _ (s : List ℕ) (shift limit : ℕ) (t : Tokenizer) (before : List ℕ) (r : Ran) (after : List ℕ) (c : RunsNumbersFrom s shift limit t before r after) where
  -- THE THEOREM. The same answer, and the numbers are those of the records that the list would hold
  pub as_run : (list : List Token) → length list ≡ length before / group_size
      → (filled : List Token) × RunsFrom s shift limit t list r filled × (after ≡ over (numbers_all (held r filled)) before)
  as_run list l =
      let ts = (whole_run s shift limit (length before / group_size) t).tokens in
      let d : RunsFrom s shift limit t list r (over ts list) = (rw l c.0, rw l) in
      let e : (whole_run s shift limit (length list) t).tokens ≡ held r (over ts list) = sym (found s shift limit list (over ts list) t r d) in
      (over ts list, d, rw (← e, l) c.1)

  -- and a caller has its tokenizer
  pub kept_numbers : Kept s t → Kept s r.state
  kept_numbers k =
      let list = blank (length before / group_size) in
      let h = as_run list (blank-length (length before / group_size)) in
      ran shift limit list h.0 k h.1
