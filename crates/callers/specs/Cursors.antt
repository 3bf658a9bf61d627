-- EVERY CURSOR THAT A CALL LEAVES IS ON A BOUNDARY OF ITS TEXT: of `run::next`, of `run::run`, and so of every tokenizer that a caller has.
use Rattle.std.specs.Prelude.{ℕ, true, List, ◌≡◌, refl, length, Ok}
use Rattle.std.proofs.Common.{arith}
use Rattle.utf8.proofs.Laws.{bounded}
use Rattle.utf8.specs.Laws.{valid_whole}
use Rattle.utf8.specs.Utf8.{boundary}
use Rattle.record.specs.Allowed.{allowed}
use Rattle.record.specs.Checks.{checks}
use Rattle.record.specs.declared.Reading.{Reading}
use Rattle.record.specs.declared.Token.{Token}
use Rattle.reading.specs.Answers.{start_in}
use Rattle.reading.specs.declared.Outcome.{Outcome}
use Rattle.reading.specs.declared.Tokenizer.{Tokenizer}
use Rattle.reading.specs.declared.What.{What}
use Rattle.run.specs.Checked.{next_token}
use Rattle.run.specs.declared.Ran.{Ran}
use Rattle.ledger.specs.Books.{held}
use Rattle.callers.specs.Boundaries.{next-boundary}
use Rattle.callers.specs.PublicCalls.{Kept, Nexts, RunsFrom, called, fresh, ran}
use Rattle.callers.specs.Repeated.{Calls, Last, answers, full, none, one, repeated}

-- ---- what every single call keeps, every run keeps, and every tokenizer that a caller has
module _ (s : List ℕ) (P : Tokenizer → Type 0) where
  abbrev pub Keeps : Type 0
  Keeps = (shift limit : ℕ) (t : Tokenizer) → P t → P (next_token s shift limit t).next

  pub by_calls : Keeps → (shift limit : ℕ) {t u : Tokenizer} {ts : List Token} → Calls s shift limit t ts u → P t → P u
  by_calls k shift limit none h = h
  by_calls k shift limit {t} (one y e c) h = by_calls k shift limit c (k shift limit t h)

  by_last : Keeps → (shift limit room : ℕ) (u : Tokenizer) (n : ℕ) (how : Outcome) (state : Tokenizer) → Last s shift limit room u n how state → P u → P state
  by_last k shift limit room u n how state (full y e l w q) h = rw q h
  by_last k shift limit room u n how state (answers f w q) h = rw q (k shift limit u h)

  pub by_run : Keeps → (shift limit : ℕ) (t : Tokenizer) (before : List Token) (r : Ran) (after : List Token) → RunsFrom s shift limit t before r after → P t → P r.state
  by_run k shift limit t before r after c h =
      let d = repeated s shift limit t before r after c in
      by_last k shift limit (length before) d.reached (length (held r after)) r.how r.state d.last (by_calls k shift limit d.calls h)

  pub by_kept : Keeps → ((rd : Reading) → P (start_in rd)) → {t : Tokenizer} → Kept s t → P t
  by_kept k h (fresh rd) = h rd
  by_kept k h (called {t} shift limit d c) = rw c.1 (k shift limit t (by_kept k h d))
  by_kept k h (ran {t} {r} shift limit before after d c) = by_run k shift limit t before r after c (by_kept k h d)

-- a caller has every tokenizer between the calls
pub reached-kept : (s : List ℕ) (shift limit : ℕ) {t u : Tokenizer} {ts : List Token} → Calls s shift limit t ts u → Kept s t → Kept s u
reached-kept s shift limit c k = by_calls s (Kept s) (λ shift' limit' t h. called {r = (next_token s shift' limit' t).what} shift' limit' h (refl, refl)) shift limit c k

-- ---- THE THEOREMS
module _ (s : List ℕ) (shift limit : ℕ) (t : Tokenizer) (on : boundary s t.at ≡ true) where
  -- of the single call, from any tokenizer whose cursor is on a boundary
  pub after_next : (r : What) (u : Tokenizer) → Nexts s shift limit t r u → boundary s u.at ≡ true
  after_next r u c = rw c.1 (next-boundary s shift limit t on)

  -- of a whole run
  pub after_run : (before : List Token) (r : Ran) (after : List Token) → RunsFrom s shift limit t before r after → boundary s r.state.at ≡ true
  after_run before r after c = by_run s (λ u. boundary s u.at ≡ true) (next-boundary s) shift limit t before r after c on

-- so the cursor of every tokenizer that a caller has of a well_formed_lem text is on a boundary, and no call refuses it for 20
pub kept-boundary : (s : List ℕ) (shift : ℕ) {t : Tokenizer} → Kept s t → checks s shift ≡ (Ok tt) → boundary s t.at ≡ true
kept-boundary s shift d e = by_kept s (λ u. boundary s u.at ≡ true) (next-boundary s) (λ rd. bounded s 0 (omega arith) (valid_whole s (allowed s shift e).valid)) d
