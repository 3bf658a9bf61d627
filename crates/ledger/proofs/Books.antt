-- THE BOOKS CLOSE (specs/Books.antt): the count of a run, which is what its calls pass.
use Rattle.std.specs.Prelude.{◌+◌, ℕ, List, ◌≡◌, length}
use Rattle.record.specs.declared.Reading.{Reading}
use Rattle.record.specs.declared.Token.{Token}
use Rattle.run.specs.declared.Ran.{Ran}
use Rattle.ledger.specs.Spent.{final_call, spent}
use Rattle.ledger.proofs.Runs.{spent_law}
use Rattle.ledger.specs.Books.{Runs, reported}

-- ---- THE THEOREMS, of a run of the text s
module _ (rd : Reading) (s : List ℕ) (shift limit : ℕ) (before : List Token) (r : Ran) (after : List Token) (contract : Runs rd s shift limit before r after) where
  -- 4. In every run the count is what its calls pass by the definition: one call for each record that it stored, and the final call where that
  -- answered the end or an error of the reading.
  pub no_invention : r.advances ≡ spent rd s (r.stored + final_call r.how) 0
  no_invention = rw (reported rd s shift limit before r after contract) (spent_law rd s shift limit (length before))
