-- WHICH CODES COME OUT, of every tokenizer that a caller has: of a call those of `call_codes`, of a run those of `run_codes`, and none of `never_codes`.
use Rattle.std.specs.Prelude.{ℕ, List, ◌∷◌, length}
use Rattle.std.proofs.Common.{arith, ◌∙◌}
use Rattle.std.proofs.Math.Bool.{false, true}
use Rattle.std.proofs.Math.Path.{◌≡◌, refl, sym}
use Rattle.record.specs.Checks.{checks}
use Rattle.record.specs.Codes.{Apart, OneOf, Refuses, among, checks-refuse, each, none_of, one_of}
use Rattle.record.specs.Numbers.{code_number}
use Rattle.record.specs.declared.Code.TheVariants.{NoRoom}
use Rattle.record.specs.declared.Refusal.{Refusal}
use Rattle.record.specs.declared.Token.{Token}
use Rattle.scan.specs.Until.{left}
use Rattle.reading.specs.Run.{shift_what}
use Rattle.reading.specs.declared.Outcome.TheVariants.{Refused}
use Rattle.reading.specs.declared.Tokenizer.{Tokenizer}
use Rattle.reading.specs.declared.What.TheVariants.{Error}
use Rattle.run.specs.Checked.{next_token}
use Rattle.run.specs.declared.Ran.{Ran}
use Rattle.ledger.specs.Books.{held}
use Rattle.callers.specs.PublicCalls.{Kept, Nexts, RunsFrom}
use Rattle.callers.specs.Cursors.{by_kept, kept-boundary, reached-kept}
use Rattle.callers.specs.Single.{Single, call_of, end_kept, error_kept, limited, off, read, refused, single}
use Rattle.callers.specs.Repeated.{Last, answers, full, repeated}
use Rattle.callers.specs.Codes.{DoneBy, Said, call_codes, done_by_lem, never_codes, reading_codes, reads, run-said, run_codes, said-not, shift_said, wider}

next-holds : (s : List ℕ) (shift limit : ℕ) (t : Tokenizer) → DoneBy t.done → DoneBy (next_token s shift limit t).next.done
next-holds s shift limit t h = go (single s shift limit t)
  where
    go : Single s shift limit t (next_token s shift limit t) → DoneBy (next_token s shift limit t).next.done
    go (refused z c e) = rw e h
    go (off c n e) = rw e h
    go (error_kept z k e) = rw e h
    go (end_kept k e) = rw e h
    go (limited k l e) = rw e h
    go (read k l e) = rw e (done_by_lem shift (call_of s t).what (reads t.reading (left s t.at) t.at))

pub read-not : (ns : List ℕ) → Apart reading_codes ns → (s : List ℕ) (shift : ℕ) (t : Tokenizer) (z : Refusal) → shift_what shift (call_of s t).what ≡ Error z → OneOf ns z.code → ⊥
read-not ns a s shift t z e o = said-not ns a shift (call_of s t).what z (reads t.reading (left s t.at) t.at) e o

-- every tokenizer that a caller has is done so
pub kept_done : (s : List ℕ) {t : Tokenizer} → Kept s t → DoneBy t.done
kept_done s d = by_kept s (λ u. DoneBy u.done) (next-holds s) (λ rd. tt) d

module _ (s : List ℕ) (shift limit : ℕ) (t : Tokenizer) (k : Kept s t) where
  next-said : Said call_codes (next_token s shift limit t).what
  unfolding among
  next-said = go (single s shift limit t) (checks-refuse (OneOf call_codes) refl refl refl s shift) (kept_done s k)
    where
      go : Single s shift limit t (next_token s shift limit t) → Refuses (OneOf call_codes) (checks s shift) → DoneBy t.done → Said call_codes (next_token s shift limit t).what
      go (refused z c e) h d = rw e (rw c at h.is)
      go (off c n e) h d = let w : false ≡ true = sym n ∙ kept-boundary s shift k c in let q : ◌≡◌ {A = ℕ} 0 1 = cc in absurd (omega arith)
      go (error_kept z u e) h d = rw e (wider z.code (rw u.is at d))
      go (end_kept u e) h d = rw e tt
      go (limited u l e) h d = rw e refl
      go (read u l e) h d = rw e (shift_said shift (call_of s t).what (reads t.reading (left s t.at) t.at))

  -- THE THEOREMS, of every tokenizer that a caller has. A single call refuses for one of these: so not for 1, 3, 4, 7, 14, 16 to 21 or from 24 on
  pub next-codes : (z : Refusal) (u : Tokenizer) → Nexts s shift limit t (Error z) u → among (code_number z.code) call_codes ≡ true
  next-codes z u c = let h : Said call_codes (Error z) = rw (← c.0) at next-said in h

-- a run refuses for one of those or for 14
pub run-codes : (s : List ℕ) (shift limit : ℕ) (t : Tokenizer) (before : List Token) (r : Ran) (after : List Token) → Kept s t → RunsFrom s shift limit t before r after
    → (z : Refusal) → r.how ≡ Refused z → among (code_number z.code) run_codes ≡ true
unfolding among each
run-codes s shift limit t before r after k c z e = let d = repeated s shift limit t before r after c in go d.reached (reached-kept s shift limit d.calls k) d.last
  where
    go : (u : Tokenizer) → Kept s u → Last s shift limit (length before) u (length (held r after)) r.how r.state → OneOf run_codes z.code
    go u k' (full y g l h q) = let w : z.code ≡ NoRoom = cc in rw w refl
    go u k' (answers f h q) =
        let w = run-said (next_token s shift limit u).what r.how z h e (next-said s shift limit u k') in
        one_of (λ n. among n run_codes) (code_number z.code) call_codes refl w

pub next_never : (s : List ℕ) (shift limit : ℕ) (t : Tokenizer) → Kept s t → (z : Refusal) (u : Tokenizer) → Nexts s shift limit t (Error z) u → among (code_number z.code) (14 ∷ never_codes) ≡ false
unfolding among each
next_never s shift limit t k z u c = none_of call_codes (14 ∷ never_codes) refl z.code (next-codes s shift limit t k z u c)

pub run_never : (s : List ℕ) (shift limit : ℕ) (t : Tokenizer) (before : List Token) (r : Ran) (after : List Token) → Kept s t → RunsFrom s shift limit t before r after
    → (z : Refusal) → r.how ≡ Refused z → among (code_number z.code) never_codes ≡ false
unfolding among each
run_never s shift limit t before r after k c z e = none_of run_codes never_codes refl z.code (run-codes s shift limit t before r after k c z e)
