-- Of every call, where it takes quotes, words or code: the advances are the characters passed, but for a failed attempt; a token stands from its start to its end.
use Rattle.std.specs.Prelude.{◌+◌, ℕ, Bool, cond, ◌≡◌, drop, Ok, Err}
use Rattle.std.proofs.Math.Bool.{false, true}
use mathlib.Core.List.{List, [], ◌∷◌}
use Rattle.std.proofs.Common.{eqb-true}
use Rattle.std.proofs.Math.Path.{ap, refl}
use Rattle.std.proofs.Math.Dec.{eqb}
use Rattle.utf8.specs.Utf8.{width_of}
use Rattle.unicode_xid.specs.Identifier.{is_identifier_start}
use Rattle.record.specs.declared.Kind.{Kind}
use Rattle.record.specs.declared.Kind.TheVariants.{Equals, EqualsEquals, EqualsGreaterThanCode, EqualsGreaterThanQuestionCode, Lifetime, Underscore, Use}
use Rattle.record.specs.declared.Reading.{Reading}
use Rattle.scan.specs.Far.{far_none}
use Rattle.scan.specs.IfNext.{if_next}
use Rattle.scan.specs.Passes.{Sound, seek-at, seek-none}
use Rattle.scan.specs.Seek.{seek}
use Rattle.scan.specs.Shapes.{Found}
use Rattle.scan.specs.Shapes.{Skip}
use Rattle.scan.specs.declared.Sought.TheVariants.{Hashes, Word}
use Rattle.code.specs.Laws.{code_sound}
use Rattle.reading.specs.Answers.{more}
use Rattle.reading.specs.Measures.{is_attribute}
use Rattle.reading.specs.Next.{starts}
use Rattle.reading.specs.Quotes.{lifetime_by, lifetimeish}
use Rattle.reading.specs.Regex.{hashed, r_word, regex_literal, regex_literal_by}
use Rattle.reading.specs.Symbols.{arrow_code, equals, right_arrow, single, singles}
use Rattle.reading.specs.Words.{code_token, identifier_by, identifierish, keyword_token, keywords, spells, use_token, word_token}
use Rattle.reading.specs.declared.Call.{Call}
use Rattle.reading.specs.Calls.{Fair, fair_test, fair_next, fair_deliver, fair_refuse, fair_more, fair_one, fair_here, fair_half, fair_mark, bang_fair, colon_fair, dot_fair, look_fair, tilde_fair, minus_fair, arrow_look_fair, escape_fair, string_fair, char_fair, quote_after, id_fair, AllPlain, all_keywords, regex_fair, Taken, taken-test, taken-one, taken-stray, taken-single, all_singles}

lifetime_fair : (o : ℕ) (cs : List ℕ) (at : ℕ) → Fair o cs at (lifetime_by o cs at (seek Word cs at))
lifetime_fair o cs at = go (seek Word cs at) refl
  where
    go : (f : Found) → seek Word cs at ≡ f → Fair o cs at (lifetime_by o cs at f)
    go (Ok (p, m)) e =
        let f = seek-at cs at p m Word e in
        quote_after o at m cs at p _ f (fair_deliver o cs at Lifetime o p p m refl f)
    go (Err (p, m)) e = fair_deliver o cs at Lifetime o p p m refl (seek-none cs at p m Word e)

pub lifetimeish_fair : (o : ℕ) (cs : List ℕ) (at : ℕ) → Fair o cs at (lifetimeish o cs at)
unfolding lifetimeish
lifetimeish_fair o [] at = fair_refuse o [] at _ o at 0 (far_none [] at)
lifetimeish_fair o (c ∷ cs) at = fair_test o (c ∷ cs) at (is_identifier_start c) _ _ (lifetime_fair o (c ∷ cs) at) (char_fair o (c ∷ cs) at)

keyword_fair : (ks : List (List ℕ × Kind)) → AllPlain ks → (w : List ℕ) (o : ℕ) (cs : List ℕ) (at : ℕ) → Fair o cs at (keyword_token ks w o cs at)
unfolding keyword_token
keyword_fair [] a w o cs at = id_fair o cs at
keyword_fair (k ∷ ks) a w o cs at =
    fair_test o cs at (spells k.0 w o at) _ _ (fair_here o cs at k.1 a.0) (keyword_fair ks a.1 w o cs at)

-- in every reading
module _ (rd : Reading) where
  -- code
  module _ (o : ℕ) (cs : List ℕ) (at : ℕ) where
    code-token_fair : (kind : Kind) (from : ℕ) (x : Skip) (d : ℕ) → is_attribute kind ≡ false → Sound cs at x → Fair o cs at (code_token kind o from x d)
    code-token_fair kind from (Ok (p, m)) d e h = let f = fair_deliver o cs at kind from p p m e h.is in record { far = f.far; span = f.span }
    code-token_fair kind from (Err (r, p, m)) d e h = record { far = h.is; span = tt }

    pub arrow_code_fair : (kind : Kind) → is_attribute kind ≡ false → Fair o cs at (arrow_code rd kind o cs at)
    unfolding arrow_code
    arrow_code_fair kind e = code-token_fair kind at _ _ e (code_sound rd o cs at)

    use_fair : Fair o cs at (use_token rd o cs at)
    unfolding use_token
    use_fair = code-token_fair Use at _ _ refl (code_sound rd o cs at)

  pub arrow_fair : (o : ℕ) (cs : List ℕ) (at : ℕ) → Fair o cs at (right_arrow rd o cs at)
  unfolding right_arrow
  arrow_fair o [] at = fair_refuse o [] at _ o at 0 (far_none [] at)
  arrow_fair o (c ∷ cs) at =
      let u = fair_one o cs at c _ (arrow_look_fair o cs (at + width_of c)) in
      let v = fair_one o cs at c _ (arrow_code_fair o cs (at + width_of c) EqualsGreaterThanQuestionCode refl) in
      let w = arrow_code_fair o (c ∷ cs) at EqualsGreaterThanCode refl in
      search fair_test

  equals_2 : (o : ℕ) (cs : List ℕ) (at : ℕ) (y : Call) → Fair o cs at y → Fair o cs at (if_next 62 cs (more 1 (right_arrow rd o (drop 1 cs) (at + 1))) y)
  unfolding if_next width_of
  equals_2 o [] at y h = h
  equals_2 o (c ∷ cs) at y h = go (eqb c 62) refl
    where
      go : (t : Bool) → eqb c 62 ≡ t → Fair o (c ∷ cs) at (cond (eqb c 62) (more 1 (right_arrow rd o cs (at + 1))) y)
      go true q =
          let v : at + width_of c ≡ at + 1 = ap (λ (j : ℕ). at + width_of j) (eqb-true c 62 q) in
          rw q (fair_one o cs at c _ (rw v (arrow_fair o cs (at + 1))))
      go false q = rw q h

  pub equals_fair : (o : ℕ) (cs : List ℕ) (at : ℕ) → Fair o cs at (equals rd o cs at)
  unfolding equals width_of
  equals_fair o cs at = fair_mark o 61 EqualsEquals cs at _ refl refl (equals_2 o cs at _ (fair_here o cs at Equals refl))

  pub word_fair : (w : List ℕ) (o : ℕ) (cs : List ℕ) (at : ℕ) → Fair o cs at (word_token rd w o cs at)
  unfolding word_token
  word_fair w o cs at =
      let u = fair_here o cs at Underscore refl in
      let v = use_fair o cs at in
      let k = keyword_fair keywords all_keywords w o cs at in
      search fair_test

  pub identifier_fair : (front : List ℕ) (o : ℕ) (cs : List ℕ) (at : ℕ) → Fair o cs at (identifierish rd front o cs at)
  unfolding identifierish
  identifier_fair front o cs at = go (seek Word cs at) refl
    where
      go : (f : Found) → seek Word cs at ≡ f → Fair o cs at (identifier_by rd front o cs f)
      go (Ok (p, m)) e = fair_more o cs at m p _ (seek-at cs at p m Word e) (word_fair _ o (drop m cs) p)
      go (Err (p, m)) e = fair_more o cs at m p _ (seek-none cs at p m Word e) (word_fair _ o (drop m cs) p)

  pub hashed_fair : (front : List ℕ) (o h : ℕ) (cs : List ℕ) (p : ℕ) → Fair o cs p (hashed rd front o h cs p)
  unfolding hashed
  hashed_fair front o h [] p = fair_refuse o [] p _ o p 0 (far_none [] p)
  hashed_fair front o h (c ∷ cs) p =
      let u = fair_one o cs p c _ (regex_fair o h cs (p + width_of c)) in
      let v = fair_one o cs p c _ (identifier_fair front o cs (p + width_of c)) in
      let w = far_none (c ∷ cs) p in
      search (fair_test, fair_refuse)

  regex_literal_fair : (front : List ℕ) (o : ℕ) (cs : List ℕ) (at : ℕ) → Fair o cs at (regex_literal rd front o cs at)
  unfolding regex_literal
  regex_literal_fair front o cs at = go (seek Hashes cs at) refl
    where
      go : (f : Found) → seek Hashes cs at ≡ f → Fair o cs at (regex_literal_by rd front o cs f)
      go (Ok (p, m)) e = fair_more o cs at m p _ (seek-at cs at p m Hashes e) (hashed_fair front o m (drop m cs) p)
      go (Err (p, m)) e = fair_refuse o cs at _ o p m (seek-none cs at p m Hashes e)

  pub r_fair : (front : List ℕ) (o : ℕ) (cs : List ℕ) (at : ℕ) → Fair o cs at (r_word rd front o cs at)
  unfolding r_word
  r_fair front o cs at =
      fair_next o cs at 35 cs _ _ (regex_literal_fair front o cs at)
      (fair_next o cs at 34 cs _ _ (regex_literal_fair front o cs at) (identifier_fair front o cs at))

  starts-taken : (c : ℕ) (cs : List ℕ) (o : ℕ) → Taken o (c ∷ cs) (starts rd c cs o (o + width_of c))
  unfolding starts
  starts-taken c cs o =
      search (taken-test, taken-one, taken-stray, bang_fair, colon_fair, dot_fair, equals_fair, look_fair, tilde_fair, escape_fair, lifetimeish_fair, string_fair, fair_half, minus_fair, r_fair, identifier_fair) depth 18

  -- every token but those that a hash starts
  pub plain-taken : (c : ℕ) (cs : List ℕ) (o : ℕ) → Taken o (c ∷ cs) (single singles c o (o + width_of c) (starts rd c cs o (o + width_of c)))
  plain-taken c cs o = taken-single c o cs singles all_singles _ (starts-taken c cs o)
