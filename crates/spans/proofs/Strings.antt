-- WHAT A LITERAL SPANS (specs/Strings.antt): its reader, of the text alone.
use Rattle.std.specs.Prelude.{ℕ, zero, suc, ◌+◌, ◌-◌, ◌<◌, Bool, ◌&&◌, not, ltb, get_or, Ok, Err}
use native.Mathlib.Omega.{arith}
use Rattle.std.proofs.Math.Bool.{false, true}
use mathlib.Core.List.{List, [], ◌∷◌}
use Rattle.std.proofs.Math.Path.{◌≡◌, refl, ap}
use Rattle.std.proofs.Common.{sym, ◌∙◌, eq-eqb, eqb-true, ltb-false, ltb-true}
use Rattle.std.proofs.Math.Dec.{eqb}
use Rattle.utf8.specs.Chars.{'backslash, 'dquote, 'quote}
use Rattle.utf8.specs.Utf8.{width_of}
use Rattle.record.specs.Records.{refusal, token_of}
use Rattle.record.specs.declared.Code.{Code}
use Rattle.record.specs.declared.Code.TheVariants.{UnterminatedCharacterLiteral, UnterminatedStringLiteral}
use Rattle.record.specs.declared.Kind.{Kind}
use Rattle.record.specs.declared.Kind.TheVariants.{CharLiteral, StringLiteral}
use Rattle.scan.specs.Far.{after, until-before}
use Rattle.scan.specs.Readers.{str_done, str_step, string_end}
use Rattle.scan.specs.Until.{until}
use Rattle.scan.specs.Shapes.{Found, same_ok}
use Rattle.scan.specs.declared.Str.{Str}
use Rattle.scan.specs.declared.Str.TheVariants.{Closed, Escaped, Plain}
use Rattle.reading.specs.Answers.{deliver, refuse}
use Rattle.reading.specs.Quotes.{char_literal, string_literal, string_or_char_literal}
use Rattle.reading.specs.declared.Call.{Call}
use Rattle.reading.specs.declared.What.TheVariants.{Error, Got}
use Rattle.spans.specs.Strings.{ClosedAt, Closes, First, NeverClosed, escaped_from, goes_on, stops}

-- ---- the reader's state is whether the next character is escaped
abbrev state : Bool → Str
state true = Escaped
state false = Plain

-- one character on
on_one : (e : Bool) (c : ℕ) (cs : List ℕ) (i : ℕ) → escaped_from e (c ∷ cs) (suc i) ≡ escaped_from (eqb c 'backslash && not e) cs i
unfolding escaped_from
on_one e c cs zero = refl
on_one e c cs (suc i) = ap (λ (b : Bool). eqb (get_or cs i 0) 'backslash && not b) (on_one e c cs i)

module _ (first : Bool) (q c : ℕ) (cs : List ℕ) where
  abbrev then : Bool
  then = eqb c 'backslash && not first

  closes-on : (i : ℕ) → Closes then q cs i → Closes first q (c ∷ cs) (suc i)
  closes-on i h = let w = h.within in record { within = omega arith; mark = h.mark; plain = on_one first c cs i ∙ h.plain }

  closes-back : (i : ℕ) → Closes first q (c ∷ cs) (suc i) → Closes then q cs i
  closes-back i h = let w = h.within in record { within = omega arith; mark = h.mark; plain = sym (on_one first c cs i) ∙ h.plain }

  -- the first character, if it doesn't close, is not the first that does
  first_on : (i : ℕ) → (Closes first q (c ∷ cs) 0 → ⊥) → First then q cs i → First first q (c ∷ cs) (suc i)
  first_on i w h = record { closes = closes-on i h.closes; earlier = early }
    where
      early : (j : ℕ) → j < suc i → Closes first q (c ∷ cs) j → ⊥
      early zero l k = w k
      early (suc j) l k = h.earlier j (omega arith) (closes-back j k)

  none-on : (Closes first q (c ∷ cs) 0 → ⊥) → ((i : ℕ) → Closes then q cs i → ⊥) → (i : ℕ) → Closes first q (c ∷ cs) i → ⊥
  none-on w f zero k = w k
  none-on w f (suc i) k = f i (closes-back i k)

never : {A : Type 0} → true ≡ false → A
never e = let w : ◌≡◌ {A = ℕ} 0 1 = cc in absurd (omega arith)

-- ---- what the reader finds, after n characters: the first mark that isn't escaped, or that there is none
pub record Ends (first : Bool) (q : ℕ) (cs : List ℕ) (n m : ℕ) : Type 0 where
  pub index : ℕ
  pub counted : m ≡ n + index
  pub is : First first q cs index

abbrev EndsIn : Bool → ℕ → List ℕ → ℕ → Found → Type 0
EndsIn first q cs n (Ok (p, m)) = Ends first q cs n m
EndsIn first q cs n (Err (p, m)) = (i : ℕ) → Closes first q cs i → ⊥

module _ (q : ℕ) (plainly : eqb q 'backslash ≡ false) where
  -- a character that doesn't close
  turn : (first : Bool) (c : ℕ) (cs : List ℕ) (n : ℕ) (f : Found) → (Closes first q (c ∷ cs) 0 → ⊥) → EndsIn (eqb c 'backslash && not first) q cs (n + 1) f → EndsIn first q (c ∷ cs) n f
  turn first c cs n (Ok (p, m)) w h = let y = h.counted in record { index = suc h.index; counted = omega arith; is = first_on first q c cs h.index w h.is }
  turn first c cs n (Err (p, m)) w h = none-on first q c cs w h

  -- one that does
  here : (c : ℕ) (cs : List ℕ) (at n : ℕ) (f : Found) → c ≡ q → Ok (at, n) ≡ f → EndsIn false q (c ∷ cs) n f
  unfolding escaped_from
  here c cs at n (Ok (p, m)) e u =
      let y : n ≡ m = (same_ok _ _ _ _ u).1 in
      record {
        index = 0;
        counted = omega arith;
        is = record { closes = record { within = omega arith; mark = e; plain = refl }; earlier = λ j l k. omega arith };
      }
  here c cs at n (Err (p, m)) e u = let w : ◌≡◌ {A = ℕ} 0 1 = cc in absurd (omega arith)

  ends : (cs : List ℕ) (first : Bool) (at n : ℕ) (f : Found) → until (str_step q) str_done (state first) cs at n ≡ f → EndsIn first q cs n f
  unfolding until escaped_from
  ends [] first at n (Ok (p, m)) e = let w : ◌≡◌ {A = ℕ} 0 1 = cc in absurd (omega arith)
  ends [] first at n (Err (p, m)) e = λ i k. let l = k.within in omega arith
  ends (c ∷ cs) first at n f e = go first (eqb c 'backslash) (eqb c q) e refl refl (λ b. ends cs b (at + width_of c) (n + 1) f)
    where
      go : (first b d : Bool) → until (str_step q) str_done (state first) (c ∷ cs) at n ≡ f → eqb c 'backslash ≡ b → eqb c q ≡ d
          → ((e : Bool) → until (str_step q) str_done (state e) cs (at + width_of c) (n + 1) ≡ f → EndsIn e q cs (n + 1) f) → EndsIn first q (c ∷ cs) n f
      go true true d e x y ih = turn true c cs n f (λ k. never k.plain) (rw x (ih false (sym (goes_on (str_step q) str_done c cs at n Escaped Plain refl refl) ∙ e)))
      go true false d e x y ih = turn true c cs n f (λ k. never k.plain) (rw x (ih false (sym (goes_on (str_step q) str_done c cs at n Escaped Plain refl refl) ∙ e)))
      go false true d e x y ih =
          let z : eqb q 'backslash ≡ true → ⊥ = λ g. never (sym g ∙ plainly) in
          turn false c cs n f (λ k. z (rw k.mark at x)) (rw x (ih true (sym (goes_on (str_step q) str_done c cs at n Plain Escaped (rw x) refl) ∙ e)))
      go false false true e x y ih = here c cs at n f (eqb-true c q y) (sym (stops (str_step q) str_done c cs at n Plain Closed (rw (x, y)) refl) ∙ e)
      go false false false e x y ih =
          turn false c cs n f (λ k. let m : c ≡ q = k.mark in never (sym (eq-eqb c q m) ∙ y))
          (rw x (ih false (sym (goes_on (str_step q) str_done c cs at n Plain Plain (rw (x, y)) refl) ∙ e)))

-- there is one first mark at most
unique : (first : Bool) (q : ℕ) (cs : List ℕ) (i j : ℕ) → First first q cs i → First first q cs j → i ≡ j
unique first q cs i j a b = go (ltb i j) (ltb j i) refl refl
  where
    go : (t u : Bool) → ltb i j ≡ t → ltb j i ≡ u → i ≡ j
    go true u x y = absurd (b.earlier i (ltb-true i j x) a.closes)
    go false true x y = absurd (a.earlier j (ltb-true j i y) b.closes)
    go false false x y = let l = ltb-false i j x in let m = ltb-false j i y in omega arith

-- ---- THE THEOREMS. The characters cs follow the opening mark, and stand at the place at.

-- of the reader of strings, wherever it is used: in a literal, in code and in an attribute
pub string_end_lem : (q : ℕ) → eqb q 'backslash ≡ false → (cs : List ℕ) (at m : ℕ) → ClosedAt q cs m → string_end q cs at ≡ Ok (after m cs at, m)
string_end_lem q plainly cs at m h = go (string_end q cs at) refl (ends q plainly cs false at 0 (string_end q cs at) refl)
  where
    go : (f : Found) → string_end q cs at ≡ f → EndsIn false q cs 0 (string_end q cs at) → string_end q cs at ≡ Ok (after m cs at, m)
    go (Ok (p, n)) e k =
        let k' : Ends false q cs 0 n = rw e at k in
        let y : n ≡ m = k'.counted ∙ (let u = unique false q cs m k'.index h k'.is in omega arith) in
        let s = until-before (str_step q) str_done p n cs Plain at 0 e in
        let z : n - 0 ≡ m = omega arith in
        let w : p ≡ after m cs at = s.far.there ∙ ap (λ (j : ℕ). after j cs at) z in
        rw (e, w, y)
    go (Err (p, n)) e k = let k' : NeverClosed q cs = rw e at k in absurd (k' m h.closes)

pub string_found : (q : ℕ) → eqb q 'backslash ≡ false → (cs : List ℕ) (at p m : ℕ) → string_end q cs at ≡ Ok (p, m) → ClosedAt q cs m × (p ≡ after m cs at)
string_found q plainly cs at p m e =
    let k : Ends false q cs 0 m = ends q plainly cs false at 0 (Ok (p, m)) e in
    let s = until-before (str_step q) str_done p m cs Plain at 0 e in
    let i = k.counted in
    let y : k.index ≡ m = omega arith in
    let z : m - 0 ≡ m = omega arith in
    (rw y at k.is, s.far.there ∙ ap (λ (j : ℕ). after j cs at) z)

module _ (q : ℕ) (plainly : eqb q 'backslash ≡ false) (kind : Kind) (code : Code) (o : ℕ) (cs : List ℕ) (at : ℕ) where
  abbrev literal : Call
  literal = string_or_char_literal kind code o at (string_end q cs at)

  -- the payload is all the characters up to that mark, and the literal ends after it
  closed : (m : ℕ) → ClosedAt q cs m → literal ≡ deliver kind o at (after m cs at) (after m cs at + 1) (m + 1)
  closed m h = ap (λ (f : Found). string_or_char_literal kind code o at f) (string_end_lem q plainly cs at m h)

  -- the refusal, exactly if there is none
  refused : NeverClosed q cs → literal.what ≡ Error (refusal code o)
  unfolding refuse
  refused h = go (string_end q cs at) refl (ends q plainly cs false at 0 (string_end q cs at) refl)
    where
      go : (f : Found) → string_end q cs at ≡ f → EndsIn false q cs 0 (string_end q cs at) → literal.what ≡ Error (refusal code o)
      go (Ok (p, n)) e k = let k' : Ends false q cs 0 n = rw e at k in absurd (h k'.index k'.is.closes)
      go (Err (p, n)) e k = rw e

  only_if : literal.what ≡ Error (refusal code o) → NeverClosed q cs
  unfolding deliver
  only_if w = go (string_end q cs at) refl (ends q plainly cs false at 0 (string_end q cs at) refl)
    where
      go : (f : Found) → string_end q cs at ≡ f → EndsIn false q cs 0 (string_end q cs at) → NeverClosed q cs
      go (Ok (p, n)) e k = let u : Got (token_of kind o (p + 1) at p) ≡ Error (refusal code o) = rw e at w in let z : ◌≡◌ {A = ℕ} 0 1 = cc in absurd (omega arith)
      go (Err (p, n)) e k = rw e at k

-- strings
module _ (o : ℕ) (cs : List ℕ) (at : ℕ) where
  pub string_closed : (m : ℕ) → ClosedAt 'dquote cs m → string_literal o cs at ≡ deliver StringLiteral o at (after m cs at) (after m cs at + 1) (m + 1)
  unfolding string_literal
  string_closed m h = closed 'dquote refl StringLiteral UnterminatedStringLiteral o cs at m h

  -- "5 exactly if there is none"
  pub string_refused : NeverClosed 'dquote cs → (string_literal o cs at).what ≡ Error (refusal UnterminatedStringLiteral o)
  unfolding string_literal
  string_refused h = refused 'dquote refl StringLiteral UnterminatedStringLiteral o cs at h

  pub string_refused_only : (string_literal o cs at).what ≡ Error (refusal UnterminatedStringLiteral o) → NeverClosed 'dquote cs
  unfolding string_literal
  string_refused_only w = only_if 'dquote refl StringLiteral UnterminatedStringLiteral o cs at w

  -- "Otherwise a literal to the next unescaped `'`."
  pub char_closed : (m : ℕ) → ClosedAt 'quote cs m → char_literal o cs at ≡ deliver CharLiteral o at (after m cs at) (after m cs at + 1) (m + 1)
  unfolding char_literal
  char_closed m h = closed 'quote refl CharLiteral UnterminatedCharacterLiteral o cs at m h

  pub char_refused : NeverClosed 'quote cs → (char_literal o cs at).what ≡ Error (refusal UnterminatedCharacterLiteral o)
  unfolding char_literal
  char_refused h = refused 'quote refl CharLiteral UnterminatedCharacterLiteral o cs at h

  pub char_refused_only : (char_literal o cs at).what ≡ Error (refusal UnterminatedCharacterLiteral o) → NeverClosed 'quote cs
  unfolding char_literal
  char_refused_only w = only_if 'quote refl CharLiteral UnterminatedCharacterLiteral o cs at w
