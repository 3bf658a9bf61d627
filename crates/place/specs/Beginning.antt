-- A text that is refused with 11: what is answered of it is answered of its well_formed_lem beginning, the bytes before the refusal's place.
use Rattle.std.specs.Prelude.{ℕ, ◌≤◌, ◌≡◌, List, take, Ok, Err}
use Rattle.std.proofs.Math.Bool.{false}
use Rattle.std.proofs.Common.{ap, ◌∙◌, arith}
use borrow.Author.Tests.{le-ltb}
use Rattle.std.proofs.Math.Dec.{ltb}
use Rattle.std.proofs.Math.ListN.{length}
use Rattle.std.proofs.Math.Seq.{length-take-le}
use Rattle.utf8.proofs.Laws.{bad-within}
use Rattle.utf8.proofs.RoundTrip.{first_fault, only_scalars, read_back, written_valid}
use Rattle.utf8.specs.Utf8.{chars, verdict}
use Rattle.record.specs.Checks.{text_limit}
use Rattle.place.specs.Place.{answered, line_column, reported}
use Rattle.place.specs.Theorems.{refusals}

module _ (s : List ℕ) (p : ℕ) (e : verdict s ≡ Err p) where
  -- it is well formed,
  pub beginning_valid : verdict (take p s) ≡ Ok tt
  beginning_valid = rw (first_fault s p e).before (written_valid (chars s) (only_scalars s))

  -- and its characters are those of the text
  beginning_chars : chars (take p s) ≡ chars s
  beginning_chars = ap chars (first_fault s p e).before ∙ read_back (chars s) (only_scalars s)

  pub beginning_asked : (q : ℕ) → line_column (take p s) q ≡ line_column s q
  unfolding line_column
  beginning_asked q = rw beginning_chars

  -- so the reporter does not refuse it, and answers of it what it would of the text
  pub beginning_reported : (q : ℕ) → length s ≤ text_limit → reported (take p s) q ≡ Ok (line_column s q)
  unfolding answered reported
  beginning_reported q l =
      let n : length (take p s) ≡ p = length-take-le p s (bad-within s p e) in
      let h : ltb text_limit (length (take p s)) ≡ false = le-ltb text_limit (length (take p s)) (omega (arith, bad-within s p e)) in
      rw (refusals (take p s), h, beginning_valid) (ap Ok (beginning_asked q))
