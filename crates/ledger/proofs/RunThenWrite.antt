-- What a run with shift 0 delivers is never refused by the LTK writer for 20 (Written.antt), as a caller has it.
use Rattle.std.specs.Prelude.{ℕ, ◌*◌, ◌/◌, List, map, ◌≡◌, take, Result, Err}
use Rattle.std.proofs.Common.{arith, sym, ◌∙◌, take_at}
use Rattle.std.proofs.Math.Path.{ap}
use Rattle.std.proofs.Math.ListN.{length}
use Rattle.record.specs.Records.{over}
use Rattle.record.specs.declared.Code.TheVariants.{BadRecord}
use Rattle.record.specs.declared.Refusal.{Refusal}
use Rattle.record.specs.declared.Token.{Token}
use Rattle.reading.specs.declared.Tokenizer.{Tokenizer}
use Rattle.run.specs.Checked.{ran_of, ran_with, whole_run}
use Rattle.run.specs.Numbers.{group_size, numbers_all}
use Rattle.run.specs.declared.Ran.{Ran}
use Rattle.ltk.specs.Ltk.{entries_in, entry_of, write_answer}
use Rattle.ltk.specs.declared.Entry.{Entry}
use Rattle.ledger.specs.Order.{found}
use Rattle.ledger.proofs.Written.{never_bad_record}
use Rattle.ledger.specs.Written.{entries_are, numbers_length}

-- as a caller has it: a run with shift 0 fills a list, and the writer takes its records up to the count
module _ (s : List ℕ) (limit : ℕ) (list-before list-after : List Token) (t : Tokenizer) (r : Ran)
    (ran-is : (r ≡ ran_of s 0 limit (length list-before) t) × (list-after ≡ over (whole_run s 0 limit (length list-before) t).tokens list-before))
    (size : ℕ) (a : Result ℕ Refusal) (written_is : a ≡ write_answer (map entry_of (take r.stored list-after)) size) where
  pub run-then-write : (f : Refusal) → a ≡ Err f → f.code ≡ BadRecord → ⊥
  run-then-write f e c =
      let q = found s 0 limit list-before list-after t r ran-is in
      never_bad_record s limit (length list-before) t size f (ap (λ (ts : List Token). write_answer (map entry_of ts) size) (sym q) ∙ sym written_is ∙ e) c

-- as a caller has it: a run with shift 0 fills a list of numbers, and the writer takes its groups up to the count
module _ (s : List ℕ) (limit : ℕ) (list-before list-after : List ℕ) (t : Tokenizer) (r : Ran)
    (ran-is : (r ≡ ran_of s 0 limit (length list-before / group_size) t) × (list-after ≡ over (numbers_all (whole_run s 0 limit (length list-before / group_size) t).tokens) list-before))
    (size : ℕ) (a : Result ℕ Refusal) (written_is : a ≡ write_answer (entries_in (take (group_size * r.stored) list-after)) size) where
  abbrev stored-tokens : List Token
  stored-tokens = (whole_run s 0 limit (length list-before / group_size) t).tokens

  found_numbers_lem : take (group_size * r.stored) list-after ≡ numbers_all stored-tokens
  unfolding ran_with
  found_numbers_lem =
      let n : r.stored ≡ length stored-tokens = ap (λ (x : Ran). x.stored) ran-is.0 in
      rw ran-is.1 (take_at (numbers_all stored-tokens) _ (group_size * r.stored) (omega (arith, numbers_length stored-tokens)))

  pub run-then-write_numbers : (f : Refusal) → a ≡ Err f → f.code ≡ BadRecord → ⊥
  run-then-write_numbers f e c =
      let q : entries_in (take (group_size * r.stored) list-after) ≡ map entry_of stored-tokens = ap entries_in found_numbers_lem ∙ entries_are stored-tokens in
      never_bad_record s limit (length list-before / group_size) t size f (ap (λ (es : List Entry). write_answer es size) (sym q) ∙ sym written_is ∙ e) c
