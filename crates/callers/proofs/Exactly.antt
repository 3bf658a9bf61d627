-- 14 AND 15, EXACTLY: where 15 is answered, finishing the next call would take the total advances above the work limit; where 14 is, the list is full and the next call yields a token.
-- The other way round: `above_limit`, `full_list` (specs/Exactly).
use Rattle.std.specs.Prelude.{ℕ, ◌+◌, List, [], ◌∷◌, refl}
use Rattle.std.proofs.Common.{arith, ◌∙◌, ltb-false, ltb-true}
use Rattle.std.proofs.Math.Bool.{false, true}
use Rattle.std.proofs.Math.Path.{◌≡◌, sym, ap}
use Rattle.std.proofs.Math.ListN.{length}
use Rattle.record.specs.Checks.{checks}
use Rattle.record.specs.Codes.{OneOf, Refuses, among, checks-refuse}
use Rattle.record.specs.Numbers.{code_number}
use Rattle.record.specs.Records.{refusal}
use Rattle.record.specs.declared.Code.{Code}
use Rattle.record.specs.declared.Code.TheVariants.{NoRoom, WorkLimit}
use Rattle.record.specs.declared.Refusal.{Refusal}
use Rattle.record.specs.declared.Token.{Token}
use Rattle.reading.specs.declared.Outcome.TheVariants.{Refused}
use Rattle.reading.specs.declared.Tokenizer.{Tokenizer}
use Rattle.reading.specs.declared.What.TheVariants.{End, Error, Got}
use Rattle.run.specs.Checked.{next_token}
use Rattle.run.specs.declared.Ran.{Ran}
use Rattle.ledger.specs.Books.{held}
use Rattle.callers.specs.PublicCalls.{Kept, Nexts, RunsFrom}
use Rattle.callers.specs.Single.{Single, call_of, end_kept, error_kept, error_at, limited, off, read, refused, single}
use Rattle.callers.specs.Cursors.{reached-kept}
use Rattle.callers.specs.Refusals.{said_error}
use Rattle.callers.specs.Repeated.{Last, answers, full, repeated}
use Rattle.callers.specs.Codes.{DoneBy, not_reading}
use Rattle.callers.proofs.Codes.{kept_done, next_never, read-not}
use Rattle.callers.specs.Exactly.{Above, Limited, apart, fourteen_too, stored-held}

fifteen : (s : List ℕ) (shift limit : ℕ) (t : Tokenizer) (z : Refusal) → Kept s t → OneOf (15 ∷ []) z.code → (next_token s shift limit t).what ≡ Error z
    → Limited s shift limit t z × ((next_token s shift limit t).next ≡ t)
unfolding among
fifteen s shift limit t z k o w = go (single s shift limit t) (checks-refuse (λ c. among (code_number c) (15 ∷ []) ≡ false) refl refl refl s shift) (kept_done s k)
  where
    other : (x : Refusal) → among (code_number x.code) (15 ∷ []) ≡ false → next_token s shift limit t ≡ error_at t x → Limited s shift limit t z × ((next_token s shift limit t).next ≡ t)
    other x h e =
        let v : Error x ≡ Error z = rw e at w in
        let q : x.code ≡ z.code = cc in
        let f : true ≡ false = sym o ∙ rw q at h in
        let n : ◌≡◌ {A = ℕ} 0 1 = cc in
        absurd (omega arith)

    go : Single s shift limit t (next_token s shift limit t) → Refuses (λ (c : Code). among (code_number c) (15 ∷ []) ≡ false) (checks s shift) → DoneBy t.done
        → Limited s shift limit t z × ((next_token s shift limit t).next ≡ t)
    go (refused x p e) h d = other x (rw p at h.is) e
    go (off p n e) h d = other _ refl e
    go (error_kept x v e) h d =
        let g : Error x ≡ Error z = rw e at w in
        let q : z ≡ x = cc in
        absurd (not_reading (15 ∷ []) apart x.code (rw v.is at d) (rw q at o))
    go (end_kept v e) h d = let g : End ≡ Error z = rw e at w in let n : ◌≡◌ {A = ℕ} 0 1 = cc in absurd (omega arith)
    go (limited v l e) h d =
        let g : Error (refusal WorkLimit (t.at + shift)) ≡ Error z = rw e at w in
        let q : refusal WorkLimit (t.at + shift) ≡ z = cc in
        (record { stands = v; above = ltb-true limit (t.count + (call_of s t).advances) l; place = ap (λ (x : Refusal). x.place) (sym q) }, rw e)
    go (read v l e) h d = absurd (read-not (15 ∷ []) apart s shift t z (rw e at w) o)

-- a call that yields a token is within the limit
not-above : (s : List ℕ) (shift limit : ℕ) (u : Tokenizer) (y : Token) → (next_token s shift limit u).what ≡ Got y → Above s limit u → ⊥
not-above s shift limit u y g a = go (single s shift limit u)
  where
    error : (z : Refusal) → next_token s shift limit u ≡ error_at u z → ⊥
    error z e = let f : Error z ≡ Got y = rw e at g in let w : ◌≡◌ {A = ℕ} 0 1 = cc in omega arith

    go : Single s shift limit u (next_token s shift limit u) → ⊥
    go (refused z c e) = error z e
    go (off c n e) = error _ e
    go (error_kept z k e) = error z e
    go (end_kept k e) = let f : End ≡ Got y = rw e at g in let w : ◌≡◌ {A = ℕ} 0 1 = cc in omega arith
    go (limited k l e) = error _ e
    go (read k l e) = let m = ltb-false limit (u.count + (call_of s u).advances) l in omega arith

-- ---- THE THEOREMS, of a single call and of a run from a tokenizer that a caller has
module _ (s : List ℕ) (shift limit : ℕ) (t : Tokenizer) (k : Kept s t) (z : Refusal) where
  pub next_fifteen : (u : Tokenizer) → Nexts s shift limit t (Error z) u → OneOf (15 ∷ []) z.code → Limited s shift limit t z × (u ≡ t)
  next_fifteen u c o = let h = fifteen s shift limit t z k o (sym c.0) in (h.0, c.1 ∙ h.1)

  module _ (before : List Token) (r : Ran) (after : List Token) (c : RunsFrom s shift limit t before r after) (how : r.how ≡ Refused z) where
    -- 15: finishing the next call, from the tokenizer that is left, would take the total above the limit
    pub run_fifteen : OneOf (15 ∷ []) z.code → Limited s shift limit r.state z
    unfolding among
    run_fifteen o = let d = repeated s shift limit t before r after c in go d.reached (reached-kept s shift limit d.calls k) d.last
      where
        go : (u : Tokenizer) → Kept s u → Last s shift limit (length before) u (length (held r after)) r.how r.state → Limited s shift limit r.state z
        go u k' (full y e l h q) =
            let v : z.code ≡ NoRoom = cc in
            let x : false ≡ true = rw v at o in
            let n : ◌≡◌ {A = ℕ} 0 1 = cc in
            absurd (omega arith)
        go u k' (answers f h q) =
            let x = fifteen s shift limit u z k' o (said_error (next_token s shift limit u).what r.how z h how) in
            rw (q, x.1) x.0

    -- 14: the list is full, the next call yields a token, whose start is the place, and finishing it would not take the total above the limit
    pub run_fourteen : OneOf (14 ∷ []) z.code
        → (r.stored ≡ length before) × (y : Token) × ((next_token s shift limit r.state).what ≡ Got y) × (z.place ≡ y.start) × (Above s limit r.state → ⊥)
    unfolding among
    run_fourteen o = let d = repeated s shift limit t before r after c in go d.reached (reached-kept s shift limit d.calls k) d.last
      where
        go : (u : Tokenizer) → Kept s u → Last s shift limit (length before) u (length (held r after)) r.how r.state
            → (r.stored ≡ length before) × (y : Token) × ((next_token s shift limit r.state).what ≡ Got y) × (z.place ≡ y.start) × (Above s limit r.state → ⊥)
        go u k' (full y e l h q) =
            let v : refusal NoRoom y.start ≡ z = cc in (
              stored-held s shift limit t before r after c ∙ l,
              y,
              rw q e,
              ap (λ (x : Refusal). x.place) (sym v),
              rw q (λ a. not-above s shift limit u y e a),
            )
        go u k' (answers f h q) =
            let w = said_error (next_token s shift limit u).what r.how z h how in
            let x = next_never s shift limit u k' z (next_token s shift limit u).next (sym w, refl) in
            let g : false ≡ true = sym (fourteen_too z.code x) ∙ o in
            let n : ◌≡◌ {A = ℕ} 0 1 = cc in
            absurd (omega arith)
