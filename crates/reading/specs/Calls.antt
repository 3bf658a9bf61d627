-- Of every call: the advances are the characters passed, but for a failed attempt; a token stands from its start to its end. What takes
-- keywords, lifetimes or code is in proofs/Calls.antt.
use Rattle.std.specs.Prelude.{◌+◌, ◌-◌, ◌<◌, ℕ, Bool, cond, ◌≡◌, drop, Ok, Err}
use native.Mathlib.Omega.{arith}
use Rattle.std.proofs.Math.Bool.{false, true}
use mathlib.Core.List.{List, [], ◌∷◌}
use Rattle.std.proofs.Common.{◌∙◌, eqb-true}
use Rattle.std.proofs.Math.Path.{ap, refl}
use Rattle.std.proofs.Math.Dec.{eqb}
use Rattle.utf8.specs.Utf8.{width_of}
use Rattle.record.specs.declared.Code.{Code}
use Rattle.record.specs.declared.Code.TheVariants.{UnterminatedCharacterLiteral, UnterminatedEscape, UnterminatedStringLiteral}
use Rattle.record.specs.declared.Kind.{Kind}
use Rattle.record.specs.declared.Kind.TheVariants.{Bang, BangEquals, BangTilde, CharLiteral, Colon, ColonColon, DotDot, EqualsGreaterThanLookahead, EqualsGreaterThanLookbehind, Escape, Id, Lookahead, Lookbehind, MacroId, MinusGreaterThan, RegexLiteral, StringLiteral, TildeTilde}
use Rattle.scan.specs.Far.{Far, far_none, one_far, one_more, then}
use Rattle.scan.specs.IfNext.{if_next}
use Rattle.scan.specs.Passes.{backtick_past, regex_none, regex_past, seek-none, string_none, string_past}
use Rattle.scan.specs.Readers.{regex_end, string_end}
use Rattle.scan.specs.Seek.{seek}
use Rattle.scan.specs.Shapes.{Found}
use Rattle.scan.specs.declared.Sought.TheVariants.{Backtick}
use Rattle.reading.specs.Answers.{deliver, more, plain, refuse}
use Rattle.reading.specs.Measures.{is_attribute}
use Rattle.reading.specs.Quotes.{char_literal, escape, string_or_char_literal, string_literal}
use Rattle.reading.specs.Regex.{regex_by, regex_token}
use Rattle.reading.specs.Symbols.{arrow_look, bang, colon, dot, half, look, minus, single, singles, stray, tilde}
use Rattle.reading.specs.Words.{id_token, keywords}
use Rattle.reading.specs.declared.Call.{Call}
use Rattle.reading.specs.declared.What.{What}
use Rattle.reading.specs.declared.What.TheVariants.{End, Error, Got}

-- a token that starts at o and ends at the cursor p, and is no attribute
abbrev pub SpanIn : ℕ → ℕ → What → Type 0
SpanIn o p (Got t) = (t.start ≡ o) × (t.end ≡ p) × (is_attribute t.kind ≡ false)
SpanIn o p (Error r) = Unit {0}
SpanIn o p End = ⊥

-- the advances are the characters passed, and they lead to the cursor
pub record Fair (o : ℕ) (cs : List ℕ) (at : ℕ) (x : Call) : Type 0 where
  pub far : Far cs at x.advances x.at
  pub span : SpanIn o x.at x.what

module _ (o : ℕ) (cs : List ℕ) (at : ℕ) where
  pub fair_test : (t : Bool) (x y : Call) → Fair o cs at x → Fair o cs at y → Fair o cs at (cond t x y)
  fair_test true x y p q = p
  fair_test false x y p q = q

  pub fair_next : (k : ℕ) (l : List ℕ) (x y : Call) → Fair o cs at x → Fair o cs at y → Fair o cs at (if_next k l x y)
  unfolding if_next
  fair_next k [] x y p q = q
  fair_next k (c ∷ l) x y p q = fair_test (eqb c k) x y p q

  pub fair_deliver : (kind : Kind) (from to p n : ℕ) → is_attribute kind ≡ false → Far cs at n p → Fair o cs at (deliver kind o from to p n)
  unfolding deliver
  fair_deliver kind from to p n e f = record { far = f; span = (refl, refl, e) }

  fair_plain : (kind : Kind) (p n : ℕ) → is_attribute kind ≡ false → Far cs at n p → Fair o cs at (plain kind o p n)
  unfolding plain
  fair_plain kind p n e f = fair_deliver kind o o p n e f

  pub fair_refuse : (code : Code) (place p n : ℕ) → Far cs at n p → Fair o cs at (refuse code place p n)
  unfolding refuse
  fair_refuse code place p n f = record { far = f; span = tt }

  pub fair_more : (m p : ℕ) (x : Call) → Far cs at m p → Fair o (drop m cs) p x → Fair o cs at (more m x)
  unfolding more
  fair_more m p x f h = record { far = then m cs at p x.advances x.at f h.far; span = h.span }

  pub fair_one : (c : ℕ) (x : Call) → Fair o cs (at + width_of c) x → Fair o (c ∷ cs) at (more 1 x)
  unfolding more
  fair_one c x h = record { far = one_more c cs at x.advances x.at h.far; span = h.span }

  pub fair_here : (kind : Kind) → is_attribute kind ≡ false → Fair o cs at (plain kind o at 0)
  fair_here kind e = fair_plain kind at 0 e (far_none cs at)

  pub fair_half : Fair o cs at (half o at)
  unfolding half
  fair_half = fair_refuse _ o at 0 (far_none cs at)

-- a second character, which is one byte wide
pub fair_mark : (o k : ℕ) (kind : Kind) (cs : List ℕ) (at : ℕ) (y : Call) → width_of k ≡ 1 → is_attribute kind ≡ false → Fair o cs at y
    → Fair o cs at (if_next k cs (plain kind o (at + 1) 1) y)
unfolding if_next
fair_mark o k kind [] at y w e h = h
fair_mark o k kind (c ∷ cs) at y w e h = go (eqb c k) refl
  where
    go : (t : Bool) → eqb c k ≡ t → Fair o (c ∷ cs) at (cond (eqb c k) (plain kind o (at + 1) 1) y)
    go true q =
        let v : at + width_of c ≡ at + 1 = ap (λ (j : ℕ). at + width_of j) (eqb-true c k q) ∙ ap (λ (j : ℕ). at + j) w in
        rw q (fair_plain o (c ∷ cs) at kind (at + 1) 1 e (rw v at (one_far c cs at)))
    go false q = rw q h

-- symbols
module _ (o : ℕ) (cs : List ℕ) (at : ℕ) where
  pub bang_fair : Fair o cs at (bang o cs at)
  unfolding bang width_of
  bang_fair = fair_mark o 61 BangEquals cs at _ refl refl (fair_mark o 126 BangTilde cs at _ refl refl (fair_here o cs at Bang refl))

  pub colon_fair : Fair o cs at (colon o cs at)
  unfolding colon width_of
  colon_fair = fair_mark o 58 ColonColon cs at _ refl refl (fair_here o cs at Colon refl)

  pub dot_fair : Fair o cs at (dot o cs at)
  unfolding dot width_of
  dot_fair = fair_mark o 46 DotDot cs at _ refl refl (fair_half o cs at)

  pub look_fair : Fair o cs at (look o cs at)
  unfolding look width_of
  look_fair = fair_mark o 76 Lookahead cs at _ refl refl (fair_mark o 82 Lookbehind cs at _ refl refl (fair_half o cs at))

  pub tilde_fair : Fair o cs at (tilde o cs at)
  unfolding tilde width_of
  tilde_fair = fair_mark o 126 TildeTilde cs at _ refl refl (fair_half o cs at)

  pub minus_fair : Fair o cs at (minus o cs at)
  unfolding minus width_of
  minus_fair = fair_mark o 62 MinusGreaterThan cs at _ refl refl (fair_half o cs at)

  pub arrow_look_fair : Fair o cs at (arrow_look o cs at)
  unfolding arrow_look width_of
  arrow_look_fair =
      fair_mark o 76 EqualsGreaterThanLookahead cs at _ refl refl
      (fair_mark o 82 EqualsGreaterThanLookbehind cs at _ refl refl (fair_half o cs at))

-- quotes
module _ (o : ℕ) (cs : List ℕ) (at : ℕ) where
  quoted_fair : (kind : Kind) (code : Code) (f : Found) → is_attribute kind ≡ false
      → ((p m : ℕ) → f ≡ Ok (p, m) → Far cs at (m + 1) (p + 1)) → ((p m : ℕ) → f ≡ Err (p, m) → Far cs at m p)
      → Fair o cs at (string_or_char_literal kind code o at f)
  quoted_fair kind code (Ok (p, m)) e g h = fair_deliver o cs at kind at p (p + 1) (m + 1) e (g p m refl)
  quoted_fair kind code (Err (p, m)) e g h = fair_refuse o cs at code o p m (h p m refl)

  pub escape_fair : Fair o cs at (escape o cs at)
  unfolding escape
  escape_fair = quoted_fair Escape UnterminatedEscape (seek Backtick cs at) refl (λ p m. backtick_past cs at p m) (λ p m. seek-none cs at p m Backtick)

  pub string_fair : Fair o cs at (string_literal o cs at)
  unfolding string_literal width_of
  string_fair =
      quoted_fair StringLiteral UnterminatedStringLiteral (string_end 34 cs at) refl (λ p m. string_past cs at p m 34 refl) (λ p m. string_none cs at p m 34)

  pub char_fair : Fair o cs at (char_literal o cs at)
  unfolding char_literal width_of
  char_fair =
      quoted_fair CharLiteral UnterminatedCharacterLiteral (string_end 39 cs at) refl (λ p m. string_past cs at p m 39 refl) (λ p m. string_none cs at p m 39)

-- after m characters that lead to p: a quote
pub quote_after : (o from : ℕ) (m : ℕ) (cs : List ℕ) (at p : ℕ) (y : Call) → Far cs at m p → Fair o cs at y
    → Fair o cs at (if_next 39 (drop m cs) (deliver CharLiteral o from p (p + 1) (m + 1)) y)
unfolding if_next width_of
quote_after o from m cs at p y f h = go (drop m cs) refl
  where
    at_quote : (c : ℕ) (l : List ℕ) → drop m cs ≡ c ∷ l → (t : Bool) → eqb c 39 ≡ t → Fair o cs at (cond (eqb c 39) (deliver CharLiteral o from p (p + 1) (m + 1)) y)
    at_quote c l e true q =
        let v : p + width_of c ≡ p + 1 = ap (λ (j : ℕ). p + width_of j) (eqb-true c 39 q) in
        let g : Far (drop m cs) p 1 (p + 1) = rw e (rw v at (one_far c l p)) in
        rw q (fair_deliver o cs at CharLiteral from p (p + 1) (m + 1) refl (then m cs at p 1 (p + 1) f g))
    at_quote c l e false q = rw q h

    go : (l : List ℕ) → drop m cs ≡ l → Fair o cs at (if_next 39 l (deliver CharLiteral o from p (p + 1) (m + 1)) y)
    go [] e = h
    go (c ∷ l) e = at_quote c l e (eqb c 39) refl

-- words
pub id_fair : (o : ℕ) (cs : List ℕ) (at : ℕ) → Fair o cs at (id_token o cs at)
unfolding id_token
id_fair o cs at =
    fair_next o cs at 60 cs _ _ (fair_deliver o cs at MacroId o at at 0 refl (far_none cs at)) (fair_deliver o cs at Id o at at 0 refl (far_none cs at))

abbrev pub AllPlain : {A : Type 0} → List (A × Kind) → Type 0
AllPlain [] = Unit {0}
AllPlain (k ∷ ks) = (is_attribute k.1 ≡ false) × AllPlain ks

pub all_keywords : AllPlain keywords
unfolding keywords
all_keywords = (refl, (refl, (refl, (refl, (refl, (refl, (refl, (refl, (refl, (refl, (refl, (refl, (refl, tt)))))))))))))

-- regexes
pub regex_fair : (o h : ℕ) (cs : List ℕ) (at : ℕ) → Fair o cs at (regex_token o h cs at)
unfolding regex_token
regex_fair o h cs at = go (regex_end h cs at) refl
  where
    go : (f : Found) → regex_end h cs at ≡ f → Fair o cs at (regex_by o h at f)
    go (Ok (p, m)) e = fair_deliver o cs at RegexLiteral at (p - h) (p + 1) (m + 1) refl (regex_past cs at p m h e)
    go (Err (p, m)) e = fair_refuse o cs at _ o p m (regex_none cs at p m h e)

-- a call at its first character: a token passes at least one
abbrev pub MovesIn : ℕ → What → Type 0
MovesIn n (Got t) = 0 < n
MovesIn n (Error r) = Unit {0}
MovesIn n End = Unit {0}

pub record Taken (o : ℕ) (cs : List ℕ) (x : Call) : Type 0 where
  pub fair : Fair o cs o x
  pub moves : MovesIn x.advances x.what

module _ (c o : ℕ) (cs : List ℕ) where
  pub taken-test : (t : Bool) (x y : Call) → Taken o (c ∷ cs) x → Taken o (c ∷ cs) y → Taken o (c ∷ cs) (cond t x y)
  taken-test true x y p q = p
  taken-test false x y p q = q

  moves-one : (n : ℕ) (w : What) → MovesIn (1 + n) w
  moves-one n (Got t) = omega arith
  moves-one n (Error r) = tt
  moves-one n End = tt

  pub taken-one : (x : Call) → Fair o cs (o + width_of c) x → Taken o (c ∷ cs) (more 1 x)
  unfolding more
  taken-one x h = record { fair = fair_one o cs o c x h; moves = moves-one x.advances x.what }

  pub taken-stray : Taken o (c ∷ cs) (stray o)
  unfolding stray refuse
  taken-stray = record { fair = fair_refuse o (c ∷ cs) o _ o o 0 (far_none (c ∷ cs) o); moves = tt }

  taken-plain : (kind : Kind) → is_attribute kind ≡ false → Taken o (c ∷ cs) (plain kind o (o + width_of c) 1)
  unfolding plain deliver
  taken-plain kind e = record { fair = fair_plain o (c ∷ cs) o kind (o + width_of c) 1 e (one_far c cs o); moves = omega arith }

  pub taken-single : (ks : List (ℕ × Kind)) → AllPlain ks → (x : Call) → Taken o (c ∷ cs) x → Taken o (c ∷ cs) (single ks c o (o + width_of c) x)
  unfolding single
  taken-single [] a x h = h
  taken-single (k ∷ ks) a x h = taken-test (eqb c k.0) _ _ (taken-plain k.1 a.0) (taken-single ks a.1 x h)

pub all_singles : AllPlain singles
unfolding singles
all_singles = (refl, (refl, (refl, (refl, (refl, (refl, (refl, (refl, (refl, (refl, (refl, (refl, (refl, (refl, tt))))))))))))))
