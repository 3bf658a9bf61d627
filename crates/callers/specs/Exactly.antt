-- 14 AND 15, EXACTLY. 01: "15 is given exactly when finishing the next call (token, error or end) would take total advances above the work limit. 14 is given
-- exactly when the next call yields a token and the list is full; an error or the end is reported with a full list. If both apply, 15."
use Rattle.std.specs.Prelude.{ℕ, ◌+◌, ◌≤◌, ◌<◌, Bool, List, [], ◌∷◌, refl, eqb}
use Rattle.std.proofs.Common.{arith, ◌∙◌, ltb-false}
use Rattle.std.proofs.Math.Bool.{false, true}
use Rattle.std.proofs.Math.Path.{◌≡◌, sym, ap}
use Rattle.std.proofs.Math.ListN.{length}
use Rattle.record.specs.Codes.{Apart, among, each}
use Rattle.record.specs.Numbers.{code_number}
use Rattle.record.specs.Records.{refusal}
use Rattle.record.specs.declared.Code.{Code}
use Rattle.record.specs.declared.Code.TheVariants.{NoRoom, WorkLimit}
use Rattle.record.specs.declared.Refusal.{Refusal}
use Rattle.record.specs.declared.Token.{Token}
use Rattle.reading.specs.declared.Outcome.{Outcome}
use Rattle.reading.specs.declared.Outcome.TheVariants.{Ended, Refused, Running}
use Rattle.reading.specs.declared.Stepped.{Stepped}
use Rattle.reading.specs.declared.Tokenizer.{Tokenizer}
use Rattle.reading.specs.declared.What.{What}
use Rattle.reading.specs.declared.What.TheVariants.{Error, Got}
use Rattle.run.specs.Checked.{next_token, ran_with}
use Rattle.run.specs.declared.Ran.{Ran}
use Rattle.ledger.specs.Books.{held}
use Rattle.ledger.specs.Order.{found}
use Rattle.callers.specs.Codes.{never_codes, reading_codes}
use Rattle.callers.specs.PublicCalls.{Nexts, RunsFrom}
use Rattle.callers.specs.Single.{Single, Stands, call_of, end_kept, error_kept, limited, off, read, refused, single}
use Rattle.callers.specs.Repeated.{Calls, Last, answers, full, none, one, repeated}

-- finishing the next call would take the total advances above the work limit
abbrev pub Above : List ℕ → ℕ → Tokenizer → Type 0
Above s limit t = limit < t.count + (call_of s t).advances

-- ---- 15 of a single call, from a tokenizer that runs: exactly then
module _ (s : List ℕ) (shift limit : ℕ) (t : Tokenizer) (k : Stands s shift Running t) (r : What) (u : Tokenizer) (c : Nexts s shift limit t r u) where
  no : {A : Type 0} (d : Outcome) → t.done ≡ d → (d ≡ Running → ⊥) → A
  no d e f = absurd (f (sym e ∙ k.is))

  pub above_limit : Above s limit t → (r ≡ Error (refusal WorkLimit (t.at + shift))) × (u ≡ t)
  above_limit l = go (single s shift limit t)
    where
      go : Single s shift limit t (next_token s shift limit t) → (r ≡ Error (refusal WorkLimit (t.at + shift))) × (u ≡ t)
      go (refused z p e) = let q = sym p ∙ k.passed in let w : ◌≡◌ {A = ℕ} 0 1 = cc in absurd (omega arith)
      go (off p n e) = let q : false ≡ true = sym n ∙ k.on in let w : ◌≡◌ {A = ℕ} 0 1 = cc in absurd (omega arith)
      go (error_kept z h e) = no (Refused z) h.is (λ q. let w : ◌≡◌ {A = ℕ} 0 1 = cc in omega arith)
      go (end_kept h e) = no Ended h.is (λ q. let w : ◌≡◌ {A = ℕ} 0 1 = cc in omega arith)
      go (limited h x e) = (c.0 ∙ ap (λ (y : Stepped). y.what) e, c.1 ∙ ap (λ (y : Stepped). y.next) e)
      go (read h x e) = let m = ltb-false limit (t.count + (call_of s t).advances) x in absurd (omega arith)

-- and, of a tokenizer that a caller has, only then; its place is the cursor at the start of the unfinished call, and the tokenizer is as before it
pub record Limited (s : List ℕ) (shift limit : ℕ) (t : Tokenizer) (z : Refusal) : Type 0 where
  pub stands : Stands s shift Running t
  pub above : Above s limit t
  pub place : z.place ≡ t.at + shift

pub apart : Apart reading_codes (15 ∷ [])
unfolding among each
apart = refl

pub fourteen_too : (c : Code) → among (code_number c) (14 ∷ never_codes) ≡ false → among (code_number c) (14 ∷ []) ≡ false
unfolding among
fourteen_too c e = go (eqb (code_number c) 14) refl
  where
    go : (b : Bool) → eqb (code_number c) 14 ≡ b → among (code_number c) (14 ∷ []) ≡ false
    go true q = let f : true ≡ false = rw q at e in let w : ◌≡◌ {A = ℕ} 0 1 = cc in absurd (omega arith)
    go false q = rw q

pub stored-held : (s : List ℕ) (shift limit : ℕ) (t : Tokenizer) (before : List Token) (r : Ran) (after : List Token) → RunsFrom s shift limit t before r after → r.stored ≡ length (held r after)
unfolding ran_with
stored-held s shift limit t before r after c = ap (λ (x : Ran). x.stored) c.0 ∙ ap length (sym (found s shift limit before after t r c))

-- ---- and 14 wherever the list is full and the next call yields a token. Calls from one tokenizer go one way
pub data Beside (s : List ℕ) (shift limit : ℕ) (ts ts' : List Token) (u u' : Tokenizer) : Type 0 where
  same : ts' ≡ ts → u' ≡ u → Beside s shift limit ts ts' u u'
  less : (y : Token) → (next_token s shift limit u').what ≡ Got y → length ts' < length ts → Beside s shift limit ts ts' u u'
  more : length ts < length ts' → Beside s shift limit ts ts' u u'

module _ (s : List ℕ) (shift limit : ℕ) where
  also : (y z : Token) (ts ts' : List Token) (u u' : Tokenizer) → y ≡ z → Beside s shift limit ts ts' u u' → Beside s shift limit (y ∷ ts) (z ∷ ts') u u'
  also y z ts ts' u u' e (same a b) = same (rw (e, a)) b
  also y z ts ts' u u' e (less x g l) = less x g (omega arith)
  also y z ts ts' u u' e (more l) = more (omega arith)

  beside : {t u u' : Tokenizer} {ts ts' : List Token} → Calls s shift limit t ts u → Calls s shift limit t ts' u' → Beside s shift limit ts ts' u u'
  beside none none = same refl refl
  beside none (one z e c) = more (omega arith)
  beside (one y e c) none = less y e (omega arith)
  beside {u = u} {u' = u'} (one {ts = ts} y e c) (one {ts = ts'} z g d) =
      let q : Got y ≡ Got z = sym e ∙ g in
      let w : y ≡ z = cc in
      also y z ts ts' u u' w (beside c d)

-- THE THEOREM. Calls deliver tokens from t to u, as many as the list has room for, and the next call yields another: then a run stores the tokens,
-- answers 14 at the start of the other, and leaves the tokenizer as before that call.
pub full_list : (s : List ℕ) (shift limit : ℕ) (t u : Tokenizer) (ts : List Token) (y : Token) → Calls s shift limit t ts u → (next_token s shift limit u).what ≡ Got y
    → (before : List Token) (r : Ran) (after : List Token) → RunsFrom s shift limit t before r after → length ts ≡ length before
    → (r.how ≡ Refused (refusal NoRoom y.start)) × (r.state ≡ u) × (held r after ≡ ts)
full_list s shift limit t u ts y c g before r after d n =
    let x = repeated s shift limit t before r after d in
    go x.reached x.fits x.last (beside s shift limit c x.calls)
  where
    go : (v : Tokenizer) → length (held r after) ≤ length before → Last s shift limit (length before) v (length (held r after)) r.how r.state → Beside s shift limit ts (held r after) u v
        → (r.how ≡ Refused (refusal NoRoom y.start)) × (r.state ≡ u) × (held r after ≡ ts)
    go v f (full z e l h q) (same a b) =
        let i : Got z ≡ Got y = sym e ∙ ap (λ (w : Tokenizer). (next_token s shift limit w).what) b ∙ g in
        let j : z ≡ y = cc in
        (h ∙ ap (λ (w : Token). Refused (refusal NoRoom w.start)) j, q ∙ b, a)
    go v f (answers i h q) (same a b) = absurd (i y (ap (λ (w : Tokenizer). (next_token s shift limit w).what) b ∙ g))
    go v f (full z e l h q) (less w i m) = absurd (omega arith)
    go v f (answers k h q) (less w i m) = absurd (k w i)
    go v f l (more m) = absurd (omega arith)
