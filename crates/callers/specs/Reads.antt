-- A TEXT READ BY REPEATED `run::next`. Its answers are the records of `run::run`, its answer and its count.
use Rattle.std.specs.Prelude.{ℕ, ◌≤◌, ◌<◌, List, [], ◌∷◌, ◌≡◌, refl, length, Ok}
use Rattle.std.proofs.Common.{arith, sym, ap, ◌∙◌}
use Rattle.record.specs.Checks.{checks}
use Rattle.record.specs.declared.Token.{Token}
use Rattle.reading.specs.Run.{done_by}
use Rattle.reading.specs.declared.Tokenizer.{Tokenizer}
use Rattle.reading.specs.declared.What.{What}
use Rattle.reading.specs.declared.What.TheVariants.{Got}
use Rattle.run.specs.Checked.{next_token}
use Rattle.run.specs.declared.Ran.{Ran}
use Rattle.ledger.specs.Books.{held}
use Rattle.callers.specs.PublicCalls.{Nexts, RunsFrom}
use Rattle.callers.specs.Repeated.{Calls, Last, answers, counts, full, none, one, repeated}

-- Calls of `run::next`, until one answers no token: from the tokenizer t the tokens ts, then the answer r, with the tokenizer left at u.
pub data Reads (s : List ℕ) (shift limit : ℕ) : Tokenizer → List Token → What → Tokenizer → Type 0 where
  last : {t u : Tokenizer} {r : What} → Nexts s shift limit t r u → ((y : Token) → r ≡ Got y → ⊥) → Reads s shift limit t [] r u
  more : {t v u : Tokenizer} {r : What} {y : Token} {ts : List Token} → Nexts s shift limit t (Got y) v → Reads s shift limit v ts r u → Reads s shift limit t (y ∷ ts) r u

-- ---- calls from one tokenizer go one way: those of a run are these, or fewer of them with a token to come
pub data Along (s : List ℕ) (shift limit : ℕ) (ts ts' : List Token) (r : What) (u u' : Tokenizer) : Type 0 where
  all : ts' ≡ ts → r ≡ (next_token s shift limit u').what → u ≡ (next_token s shift limit u').next → Along s shift limit ts ts' r u u'
  fewer : (y : Token) → (next_token s shift limit u').what ≡ Got y → length ts' < length ts → Along s shift limit ts ts' r u u'

module _ (s : List ℕ) (shift limit : ℕ) where
  also : (y z : Token) (ts ts' : List Token) (r : What) (u u' : Tokenizer) → y ≡ z → Along s shift limit ts ts' r u u' → Along s shift limit (y ∷ ts) (z ∷ ts') r u u'
  also y z ts ts' r u u' e (all a b c) = all (rw (e, a)) b c
  also y z ts ts' r u u' e (fewer x g l) = fewer x g (omega arith)

  along : {t u u' : Tokenizer} {ts ts' : List Token} {r : What} → Reads s shift limit t ts r u → Calls s shift limit t ts' u' → ((y : Token) → r ≡ Got y → ⊥) → Along s shift limit ts ts' r u u'
  along (last n f) none g = all refl n.0 n.1
  along (last n f) (one y e c) g = absurd (f y (n.0 ∙ e))
  along (more {y = y} n k) none g = fewer y (sym n.0) (omega arith)
  along {u = u} {u' = u'} {r = r} (more {v = v} {y = y} {ts = ts} n k) (one {ts = ts'} z e c) g =
      let q : Got y ≡ Got z = n.0 ∙ e in
      let w : y ≡ z = cc in
      also y z ts ts' r u u' w (along k (rw (← n.1) at c) g)

no-token : {s : List ℕ} {shift limit : ℕ} {t u : Tokenizer} {ts : List Token} {r : What} → Reads s shift limit t ts r u → (y : Token) → r ≡ Got y → ⊥
no-token (last n f) = f
no-token (more n k) = no-token k

-- ---- THE THEOREM. A list with room for these tokens, and a run from the same tokenizer
pub record Same (s : List ℕ) (shift : ℕ) (ts : List Token) (r : What) (u : Tokenizer) (ran : Ran) (after : List Token) : Type 0 where
  pub records : held ran after ≡ ts
  pub answer : ran.how ≡ done_by r
  pub state : ran.state ≡ u
  pub count : checks s shift ≡ (Ok tt) → ran.advances ≡ u.count

module _ (s : List ℕ) (shift limit : ℕ) (t : Tokenizer) (ts : List Token) (r : What) (u : Tokenizer) (reads : Reads s shift limit t ts r u)
    (before : List Token) (ran : Ran) (after : List Token) (room : length ts ≤ length before) (contract : RunsFrom s shift limit t before ran after) where
  pub reads_as_run : Same s shift ts r u ran after
  reads_as_run =
      let d = repeated s shift limit t before ran after contract in
      go d.reached d.last (along s shift limit reads d.calls (no-token reads))
    where
      go : (v : Tokenizer) → Last s shift limit (length before) v (length (held ran after)) ran.how ran.state → Along s shift limit ts (held ran after) r u v → Same s shift ts r u ran after
      go v (full y e l h q) (all a b c) = absurd (no-token reads y (b ∙ e))
      go v (full y e l h q) (fewer z g n) = absurd (omega arith)
      go v (answers f h q) (fewer z g n) = absurd (f z g)
      go v (answers f h q) (all a b c) =
          let w : ran.state ≡ u = q ∙ sym c in
          record {
            records = a;
            answer = h ∙ ap (λ (x : What). done_by x) (sym b);
            state = w;
            count = λ p. counts s shift limit t before ran after contract p ∙ ap (λ (x : Tokenizer). x.count) w;
          }
