-- WHAT A REFUSAL LEAVES, by the answer: of any code but an error of the reading nothing is changed, and 11 to 13 report count 0.
use Rattle.std.specs.Prelude.{ℕ, false, true, List, [], ◌∷◌, ◌≡◌, refl, length, Err}
use Rattle.std.proofs.Common.{arith, sym, ◌∙◌}
use Rattle.record.specs.Checks.{checks}
use Rattle.record.specs.Codes.{among}
use Rattle.record.specs.declared.Code.TheVariants.{NoRoom}
use Rattle.record.specs.declared.Refusal.{Refusal}
use Rattle.record.specs.declared.Token.{Token}
use Rattle.reading.specs.declared.Outcome.TheVariants.{Refused}
use Rattle.reading.specs.declared.Tokenizer.{Tokenizer}
use Rattle.reading.specs.declared.What.TheVariants.{End, Error}
use Rattle.run.specs.Checked.{next_token}
use Rattle.run.specs.declared.Ran.{Ran}
use Rattle.ledger.specs.Books.{held}
use Rattle.ledger.specs.Codes.{is_error}
use Rattle.callers.specs.PublicCalls.{Kept, Nexts, RunsFrom}
use Rattle.callers.specs.Cursors.{reached-kept}
use Rattle.callers.specs.Repeated.{Last, answers, full, repeated}
use Rattle.callers.specs.Single.{Single, end_kept, error_kept, error_at, limited, off, read, refused, single}
use Rattle.callers.specs.Codes.{DoneBy, not_reading}
use Rattle.callers.proofs.Codes.{kept_done, read-not}
use Rattle.callers.specs.Refusals.{apart, is_check, next-same, no, refused_run, said_error}

-- ---- a call that refuses for anything but an error of the reading changes nothing
module _ (s : List ℕ) (shift limit : ℕ) (t : Tokenizer) (z : Refusal) (other : is_error z.code ≡ false) where
  -- so of 11 to 13, of 15 and of 20, from any tokenizer
  pub nothing_changed : (u : Tokenizer) → Nexts s shift limit t (Error z) u → u ≡ t
  nothing_changed u c = c.1 ∙ next-same s shift limit t z other (sym c.0)

by_checks : (s : List ℕ) (shift limit : ℕ) (u : Tokenizer) (z : Refusal) → Kept s u → is_check z.code ≡ true → (next_token s shift limit u).what ≡ Error z → checks s shift ≡ Err z
unfolding among
by_checks s shift limit u z k c w = go (single s shift limit u) (kept_done s k)
  where
    other : (x : Refusal) → is_check x.code ≡ false → next_token s shift limit u ≡ error_at u x → checks s shift ≡ Err z
    other x h e = let v : Error x ≡ Error z = rw e at w in let q : x.code ≡ z.code = cc in no (sym c ∙ rw q at h)

    go : Single s shift limit u (next_token s shift limit u) → DoneBy u.done → checks s shift ≡ Err z
    go (refused x p e) d = let v : Error x ≡ Error z = rw e at w in let q : x ≡ z = cc in rw q at p
    go (off p n e) d = other _ refl e
    go (error_kept x h e) d = let v : Error x ≡ Error z = rw e at w in let q : x ≡ z = cc in absurd (not_reading (11 ∷ 12 ∷ 13 ∷ []) apart x.code (rw h.is at d) (rw (← q) at c))
    go (end_kept h e) d = let v : End ≡ Error z = rw e at w in let q : ◌≡◌ {A = ℕ} 0 1 = cc in absurd (omega arith)
    go (limited h l e) d = other _ refl e
    go (read h l e) d = absurd (read-not (11 ∷ 12 ∷ 13 ∷ []) apart s shift u z (rw e at w) c)

-- a run that answers one of 11 to 13 reports count 0, stores nothing and leaves the tokenizer
pub count_zero : (s : List ℕ) (shift limit : ℕ) (t : Tokenizer) → Kept s t → (before : List Token) (r : Ran) (after : List Token) → RunsFrom s shift limit t before r after
    → (z : Refusal) → is_check z.code ≡ true → r.how ≡ Refused z → (r ≡ record { stored = 0; how = Refused z; advances = 0; state = t; last_depth = 0 }) × (after ≡ before)
unfolding among
count_zero s shift limit t k before r after c z h e =
    let d = repeated s shift limit t before r after c in
    refused_run s shift limit t z (go d.reached (reached-kept s shift limit d.calls k) d.last) before r after c
  where
    go : (u : Tokenizer) → Kept s u → Last s shift limit (length before) u (length (held r after)) r.how r.state → checks s shift ≡ Err z
    go u k' (full y g l w q) = let v : NoRoom ≡ z.code = cc in let j : is_check NoRoom ≡ true = rw (← v) at h in no (sym j)
    go u k' (answers f w q) = by_checks s shift limit u z k' h (said_error (next_token s shift limit u).what r.how z w e)
