-- WHAT A REFUSAL LEAVES. 01: "11 to 13 report count 0"; "answers 20, nothing changed"; 14 and 15 "leave the tokenizer as before that call".
use Rattle.std.specs.Prelude.{ℕ, Bool, false, true, List, [], ◌∷◌, ◌≡◌, refl, Err}
use Rattle.std.proofs.Common.{arith, sym, ap, ◌∙◌}
use Rattle.record.specs.Checks.{checks}
use Rattle.record.specs.Codes.{Apart, among, each}
use Rattle.record.specs.Numbers.{code_number}
use Rattle.record.specs.declared.Code.{Code}
use Rattle.record.specs.declared.Refusal.{Refusal}
use Rattle.record.specs.declared.Token.{Token}
use Rattle.scan.specs.Until.{left}
use Rattle.reading.specs.Run.{done_by, shift_what}
use Rattle.reading.specs.declared.Outcome.{Outcome}
use Rattle.reading.specs.declared.Outcome.TheVariants.{Refused}
use Rattle.reading.specs.declared.Tokenizer.{Tokenizer}
use Rattle.reading.specs.declared.What.{What}
use Rattle.reading.specs.declared.What.TheVariants.{End, Error, Got}
use Rattle.run.specs.Checked.{next_token, next_token_with, ran_with, whole_run_with}
use Rattle.run.specs.declared.Ran.{Ran}
use Rattle.ledger.proofs.Codes.{next_errs}
use Rattle.ledger.specs.Codes.{ErrorIn, is_error}
use Rattle.callers.specs.Codes.{reading_codes}
use Rattle.callers.specs.PublicCalls.{Nexts, RunsFrom}
use Rattle.callers.specs.Single.{Single, call_of, end_kept, error_kept, limited, off, read, refused, single}

-- ---- THE THEOREMS. What the checks refuse, 11 to 13, from any tokenizer
module _ (s : List ℕ) (shift limit : ℕ) (t : Tokenizer) (z : Refusal) (refused : checks s shift ≡ Err z) where
  -- a single call answers it and leaves the tokenizer
  pub refused_next : (r : What) (u : Tokenizer) → Nexts s shift limit t r u → (r ≡ Error z) × (u ≡ t)
  unfolding next_token_with
  refused_next r u c = (c.0 ∙ rw refused, c.1 ∙ rw refused)

  -- a run answers it, reports count 0, stores nothing and leaves the tokenizer
  pub refused_run : (before : List Token) (r : Ran) (after : List Token) → RunsFrom s shift limit t before r after
      → (r ≡ record { stored = 0; how = Refused z; advances = 0; state = t; last_depth = 0 }) × (after ≡ before)
  unfolding ran_with whole_run_with
  refused_run before r after c = (c.0 ∙ rw refused, c.1 ∙ rw refused)

-- ---- a call that refuses for anything but an error of the reading changes nothing
pub no : {A : Type 0} → true ≡ false → A
no e = let w : ◌≡◌ {A = ℕ} 0 1 = cc in absurd (omega arith)

module _ (s : List ℕ) (shift limit : ℕ) (t : Tokenizer) (z : Refusal) (other : is_error z.code ≡ false) where
  no_error : (w : What) → ErrorIn w → shift_what shift w ≡ Error z → ⊥
  no_error (Got y) h e = let q : ◌≡◌ {A = ℕ} 0 1 = cc in omega arith
  no_error (Error x) h e = let q : z.code ≡ x.code = cc in no (sym h ∙ rw q at other)
  no_error End h e = let q : ◌≡◌ {A = ℕ} 0 1 = cc in omega arith

  pub next-same : (next_token s shift limit t).what ≡ Error z → (next_token s shift limit t).next ≡ t
  next-same w = go (single s shift limit t)
    where
      go : Single s shift limit t (next_token s shift limit t) → (next_token s shift limit t).next ≡ t
      go (refused x c e) = rw e
      go (off c n e) = rw e
      go (error_kept x k e) = rw e
      go (end_kept k e) = rw e
      go (limited k l e) = rw e
      go (read k l e) = absurd (no_error (call_of s t).what (next_errs t.reading (left s t.at) t.at).is (rw e at w))

-- ---- 01: "11 to 13 report count 0", by the answer. Of a tokenizer that a caller has, only the checks answer these
abbrev pub is_check : Code → Bool
is_check code = among (code_number code) (11 ∷ 12 ∷ 13 ∷ [])

pub apart : Apart reading_codes (11 ∷ 12 ∷ 13 ∷ [])
unfolding among each
apart = refl

pub said_error : (w : What) (how : Outcome) (z : Refusal) → how ≡ done_by w → how ≡ Refused z → w ≡ Error z
said_error (Got y) how z h e = let q : ◌≡◌ {A = ℕ} 0 1 = cc in absurd (omega arith)
said_error (Error x) how z h e = let q : x ≡ z = cc in ap Error q
said_error End how z h e = let q : ◌≡◌ {A = ℕ} 0 1 = cc in absurd (omega arith)
