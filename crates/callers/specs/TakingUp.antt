-- TAKING UP. 01: "14 and 15 leave the tokenizer as before that call, with the count through the last delivered answer". So a run of `run::run` that
-- they stopped can be taken up, with another list and a limit at least as high: the two lists together hold what one run would have stored.
use Rattle.std.specs.Prelude.{ℕ, Bool, false, ◌≡◌}
use Rattle.std.proofs.Common.{arith}
use Rattle.std.proofs.Math.Bool.{true}
use mathlib.Core.List.{List, [], ◌∷◌, ◌++◌}
use Rattle.std.proofs.Math.Path.{refl}
use Rattle.record.specs.Codes.{Apart, among, each}
use Rattle.record.specs.Numbers.{code_number}
use Rattle.record.specs.declared.Code.{Code}
use Rattle.record.specs.declared.Refusal.{Refusal}
use Rattle.record.specs.declared.Token.{Token}
use Rattle.reading.specs.Run.{done_by}
use Rattle.reading.specs.declared.Outcome.{Outcome}
use Rattle.reading.specs.declared.Outcome.TheVariants.{Ended, Refused, Running}
use Rattle.reading.specs.declared.Tokenizer.{Tokenizer}
use Rattle.reading.specs.declared.What.{What}
use Rattle.reading.specs.declared.What.TheVariants.{End, Error, Got}
use Rattle.run.specs.Checked.{next_token}
use Rattle.run.specs.declared.Ran.{Ran}
use Rattle.callers.specs.Codes.{reading_codes}
use Rattle.callers.specs.Single.{Single, Stands, end_kept, error_kept, error_at, limited, off, read, refused, single}

-- 14 or 15
abbrev pub is_halt : Code → Bool
is_halt code = among (code_number code) (14 ∷ 15 ∷ [])

abbrev pub halted : Outcome → Bool
halted Running = false
halted Ended = false
halted (Refused r) = is_halt r.code

pub no : {A : Type 0} → false ≡ true → A
no e = let w : ◌≡◌ {A = ℕ} 0 1 = cc in absurd (omega arith)

pub apart : Apart reading_codes (14 ∷ 15 ∷ [])
unfolding among each
apart = refl

pub halt_error : (w : What) → halted (done_by w) ≡ true → (z : Refusal) × (w ≡ Error z) × (is_halt z.code ≡ true)
halt_error (Got y) e = no e
halt_error (Error z) e = (z, refl, e)
halt_error End e = no e

-- ---- a call that stops a run by 14 or 15 leaves a tokenizer that reads on: the checks pass, the cursor is on a boundary, and it runs
module _ (s : List ℕ) (shift limit : ℕ) (u : Tokenizer) where
  -- 14: the call yields a token
  pub gets : (y : Token) → (next_token s shift limit u).what ≡ Got y → Stands s shift Running u
  gets y g = go (single s shift limit u)
    where
      error : (z : Refusal) → next_token s shift limit u ≡ error_at u z → Stands s shift Running u
      error z e = let f : Error z ≡ Got y = rw e at g in let w : ◌≡◌ {A = ℕ} 0 1 = cc in absurd (omega arith)

      go : Single s shift limit u (next_token s shift limit u) → Stands s shift Running u
      go (refused z c e) = error z e
      go (off c n e) = error _ e
      go (error_kept z k e) = error z e
      go (end_kept k e) = let f : End ≡ Got y = rw e at g in let w : ◌≡◌ {A = ℕ} 0 1 = cc in absurd (omega arith)
      go (limited k l e) = k
      go (read k l e) = k

-- ---- one run, and the same run in two parts
-- the records, the answer, the count, the tokenizer and the last gap's depth of a run in two parts
pub record Joined (first second whole : List Token) (r r' : Ran) : Type 0 where
  pub records : whole ≡ first ++ second
  pub answer : r.how ≡ r'.how
  pub count : r.advances ≡ r'.advances
  pub state : r.state ≡ r'.state
  pub last : r.last_depth ≡ r'.last_depth
