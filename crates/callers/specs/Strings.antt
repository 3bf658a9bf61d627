-- WHAT A STRING LITERAL OF A RUN SPANS: a quote, the characters up to the first quote that isn't escaped by a backslash, and that quote. Of every token of that
-- kind that a run stores, from any tokenizer, and said of the text alone.
use Rattle.std.specs.Prelude.{ℕ, ◌+◌, Bool, length, Ok, Err}
use Rattle.std.proofs.Common.{arith, sym, ◌∙◌}
use Rattle.std.proofs.Math.Bool.{false, true}
use mathlib.Core.List.{List, [], ◌∷◌}
use Rattle.std.proofs.Math.Path.{◌≡◌, refl, ap}
use Rattle.std.proofs.Math.Dec.{eqb}
use borrow.Author.Tests.{eqb-true}
use Rattle.utf8.specs.Chars.{'dquote}
use Rattle.utf8.specs.Utf8.{width_of}
use Rattle.record.specs.Codes.{among}
use Rattle.record.specs.Numbers.{kind_number}
use Rattle.record.specs.Records.{token_of}
use Rattle.record.specs.declared.Code.{Code}
use Rattle.record.specs.declared.Kind.{Kind}
use Rattle.record.specs.declared.Kind.TheVariants.{StringLiteral}
use Rattle.record.specs.declared.Reading.{Reading}
use Rattle.record.specs.declared.Token.{Token}
use Rattle.scan.specs.Far.{after}
use Rattle.scan.specs.Readers.{string_end}
use Rattle.scan.specs.Until.{left}
use Rattle.scan.specs.Shapes.{Found}
use Rattle.scan.specs.Shapes.{Skip}
use Rattle.reading.specs.Answers.{deliver, more, refuse, told, told_token}
use Rattle.reading.specs.Gaps.{gap, gap_depth_of}
use Rattle.reading.specs.Next.{next, starts, token, token_or_end}
use Rattle.reading.specs.Quotes.{string_literal}
use Rattle.reading.specs.Run.{shift_token}
use Rattle.reading.specs.Steps.{next-gap, next_lost}
use Rattle.reading.specs.Symbols.{single, singles}
use Rattle.reading.specs.declared.Call.{Call}
use Rattle.reading.specs.declared.Tokenizer.{Tokenizer}
use Rattle.reading.specs.declared.What.TheVariants.{Error, Got}
use Rattle.run.specs.Checked.{whole_run}
use Rattle.run.specs.declared.Ran.{Ran}
use Rattle.spans.proofs.Strings.{string_found}
use Rattle.spans.specs.Strings.{ClosedAt}
use Rattle.ledger.proofs.Answered.{first_says}
use Rattle.ledger.specs.Answered.{SaysIn, has_payload, is_string}
use Rattle.ledger.specs.Books.{held}
use Rattle.ledger.specs.Order.{Called, called, found}
use Rattle.ledger.specs.Untold.{untold}
use Rattle.callers.specs.PublicCalls.{RunsFrom}

-- a token that spans a string: where its opening quote stands, the characters after it, and how many of them come before the one that closes it
pub record Quoted (s : List ℕ) (shift : ℕ) (t : Token) : Type 0 where
  pub place : ℕ
  pub chars : List ℕ
  pub inside : ℕ
  pub opened : left s place ≡ 'dquote ∷ chars
  pub closed : ClosedAt 'dquote chars inside
  pub start : t.start ≡ place + shift
  pub from : t.payload_start ≡ place + 1 + shift
  pub to : t.payload_end ≡ after inside chars (place + 1) + shift
  pub end : t.end ≡ after inside chars (place + 1) + 1 + shift

-- each of a list, if its kind is StringLiteral
abbrev pub AllQuoted : List ℕ → ℕ → List Token → Type 0
AllQuoted s shift [] = Unit {0}
AllQuoted s shift (t ∷ ts) = (is_string t.kind ≡ true → Quoted s shift t) × AllQuoted s shift ts

no : {A : Type 0} → true ≡ false → A
no e = let w : ◌≡◌ {A = ℕ} 0 1 = cc in absurd (omega arith)

-- ---- a quote starts a string, and nothing else does
quote_first : (rd : Reading) (cs : List ℕ) (p : ℕ) → token_or_end rd (34 ∷ cs) p ≡ more 1 (string_literal p cs (p + 1))
unfolding token_or_end token single singles starts width_of
quote_first rd cs p = refl

plain_other : (kind : Kind) → has_payload kind ≡ false → is_string kind ≡ false
unfolding among
plain_other kind h = go (is_string kind) refl
  where
    go : (b : Bool) → is_string kind ≡ b → is_string kind ≡ false
    go true q = let k : kind_number kind ≡ 18 = eqb-true (kind_number kind) 18 q in no (rw k at h)
    go false q = q

others : (rd : Reading) (c : ℕ) (cs : List ℕ) (p : ℕ) → eqb c 34 ≡ false → (t : Token) → (token_or_end rd (c ∷ cs) p).what ≡ Got t → is_string t.kind ≡ false
others rd c cs p n t e =
    let h = first_says rd (λ (t : Token). is_string t.kind ≡ false) (λ (c : Code). Unit {0}) (λ kind o p h. plain_other kind h) (λ kind o p from to h s. s) tt tt tt tt tt tt tt tt p c cs
    (λ q. no (sym q ∙ n)) in
    let w : SaysIn (λ (t : Token). is_string t.kind ≡ false) (λ (c : Code). Unit {0}) (Got t) = rw e at h.is in
    w

-- ---- so of a call
module _ (s : List ℕ) (shift : ℕ) (t : Token) where
  by_string : (p : ℕ) (cs : List ℕ) → left s p ≡ 34 ∷ cs → (string_literal p cs (p + 1)).what ≡ Got t → Quoted s shift (shift_token shift t)
  unfolding string_literal deliver refuse
  by_string p cs l e = go (string_end 34 cs (p + 1)) refl
    where
      go : (f : Found) → string_end 34 cs (p + 1) ≡ f → Quoted s shift (shift_token shift t)
      go (Ok (q, m)) g =
          let u : Got (token_of StringLiteral p (q + 1) (p + 1) q) ≡ Got t = rw g at e in
          let v : token_of StringLiteral p (q + 1) (p + 1) q ≡ t = cc in
          let c = string_found 34 refl cs (p + 1) q m g in
          rw (← v)
          (record {
            place = p;
            chars = cs;
            inside = m;
            opened = l;
            closed = c.0;
            start = refl;
            from = refl;
            to = ap (λ (j : ℕ). j + shift) c.1;
            end = ap (λ (j : ℕ). j + 1 + shift) c.1;
          })
      go (Err (q, m)) g = let u : Error _ ≡ Got t = rw g at e in let w : ◌≡◌ {A = ℕ} 0 1 = cc in absurd (omega arith)

  by_first : (rd : Reading) (p : ℕ) (cs : List ℕ) → left s p ≡ cs → (token_or_end rd cs p).what ≡ Got t → is_string t.kind ≡ true → Quoted s shift (shift_token shift t)
  unfolding token_or_end more
  by_first rd p [] l e k = let w : ◌≡◌ {A = ℕ} 0 1 = cc in absurd (omega arith)
  by_first rd p (c ∷ cs) l e k = go (eqb c 34) refl
    where
      go : (b : Bool) → eqb c 34 ≡ b → Quoted s shift (shift_token shift t)
      go true q =
          let d = eqb-true c 34 q in
          let e' : (token_or_end rd (34 ∷ cs) p).what ≡ Got t = rw d at e in
          by_string p cs (rw d at l) (ap (λ (x : Call). x.what) (sym (quote_first rd cs p)) ∙ e')
      go false q = no (sym k ∙ others rd c cs p q t e)

-- depths change nothing of it
deep_quoted : (s : List ℕ) (shift g d : ℕ) (t : Token) → Quoted s shift (shift_token shift t) → Quoted s shift (shift_token shift (told_token g d t))
deep_quoted s shift g d t q = record {
  place = q.place;
  chars = q.chars;
  inside = q.inside;
  opened = q.opened;
  closed = q.closed;
  start = q.start;
  from = q.from;
  to = q.to;
  end = q.end;
}

call_quoted : (rd : Reading) (s : List ℕ) (shift : ℕ) (t : Token) (at : ℕ) → (next rd (left s at) at).what ≡ Got t → is_string t.kind ≡ true → Quoted s shift (shift_token shift t)
unfolding more told
call_quoted rd s shift t at e k = go (gap (left s at) at) refl
  where
    go : (x : Skip) → gap (left s at) at ≡ x → Quoted s shift (shift_token shift t)
    go (Ok (p, m)) g =
        let y = token_or_end rd (left s p) p in
        let u = untold (gap_depth_of (left s at) at) y.code_depth y.what t (ap (λ (x : Call). x.what) (sym (next-gap rd s at p m g)) ∙ e) in
        rw u.with_depths (deep_quoted s shift _ _ u.token (by_first s shift u.token rd p (left s p) refl u.got (rw u.with_depths at k)))
    go (Err (r, p, m)) g =
        let u : Error r ≡ Got t = ap (λ (x : Call). x.what) (sym (next_lost rd s at p m r g)) ∙ e in
        let w : ◌≡◌ {A = ℕ} 0 1 = cc in
        absurd (omega arith)

all_quoted : (rd : Reading) (s : List ℕ) (shift at : ℕ) (ts : List Token) → Called rd s shift at ts → AllQuoted s shift ts
all_quoted rd s shift at [] c = tt
all_quoted rd s shift at (x ∷ ts) c =
    let d = c.0 in
    (λ k. rw d.shifted (call_quoted rd s shift d.token at d.got (rw d.shifted at k)), all_quoted rd s shift (next rd (left s at) at).at ts c.1)

-- ---- THE THEOREM
pub strings_quoted : (s : List ℕ) (shift limit : ℕ) (t : Tokenizer) (before : List Token) (r : Ran) (after : List Token) → RunsFrom s shift limit t before r after
    → AllQuoted s shift (held r after)
strings_quoted s shift limit t before r after c =
    rw (found s shift limit before after t r c)
    (all_quoted t.reading s shift t.at (whole_run s shift limit (length before) t).tokens (called s shift limit (length before) t))
