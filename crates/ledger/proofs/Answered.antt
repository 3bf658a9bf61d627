-- WHAT A CALL CAN ANSWER (specs/Answered.antt), by a walk of all its readers, once for every question: what holds of the eight refusals that they
-- name, and of the tokens that they make, holds of every answer.
use Prim.Native.Nat.{◌+◌, ◌-◌, suc, zero, ℕ}
use Rattle.std.specs.Prelude.{Bool, cond, ◌≡◌, drop, Ok, Err}
use Rattle.std.proofs.Math.Bool.{false, true}
use mathlib.Core.List.{List, [], ◌∷◌}
use Rattle.std.proofs.Math.Path.{refl}
use Rattle.std.proofs.Math.Dec.{eqb}
use Rattle.std.proofs.Common.{eqb-true}
use Rattle.utf8.specs.Utf8.{width_of}
use Rattle.unicode_xid.specs.Identifier.{is_identifier_start}
use Rattle.record.specs.Codes.{among}
use Rattle.record.specs.Records.{refusal, token_of}
use Rattle.record.specs.declared.Code.{Code}
use Rattle.record.specs.declared.Code.TheVariants.{ExpectedStringLiteral, HalfSymbol, StrayCharacter, UnterminatedBlockComment, UnterminatedCharacterLiteral, UnterminatedCode, UnterminatedEscape, UnterminatedStringLiteral}
use Rattle.record.specs.declared.Kind.{Kind}
use Rattle.record.specs.declared.Kind.TheVariants.{StringLiteral}
use Rattle.record.specs.declared.Reading.{Reading}
use Rattle.record.specs.declared.Reading.TheVariants.{Kept, Old}
use Rattle.record.specs.declared.Token.{Token}
use Rattle.scan.specs.IfNext.{if_next}
use Rattle.scan.specs.Readers.{regex_end, string_end}
use Rattle.scan.specs.Seek.{seek, skip_more, through, up_to}
use Rattle.scan.specs.Walk.{turn_of, walk_from}
use Rattle.scan.specs.Shapes.{Found}
use Rattle.scan.specs.Shapes.{Skip}
use Rattle.scan.specs.declared.Sought.TheVariants.{Backtick, Hashes, Quote, Word}
use Rattle.scan.specs.declared.Turn.{Turn}
use Rattle.scan.specs.declared.Turn.TheVariants.{Fail, Pass, Stop}
use Rattle.code.specs.Code.{body_skip, code_end, code_last, code_turn, esc_past, esc_skip, hash_past, hash_skip, one_skip, quote_end, quote_last, quote_skip, r_skip, regex_start, slash_skip}
use Rattle.reading.specs.Answers.{deliver, more, plain, refuse, told, told_token, told_what}
use Rattle.reading.specs.Attribute.{attempt, attribute_token, hash, hash_by}
use Rattle.reading.specs.Gaps.{comment_turn, gap, gap_depth_of, gap_last, gap_turn}
use Rattle.reading.specs.Next.{next, next_by, starts, token, token_or_end}
use Rattle.reading.specs.Quotes.{char_literal, escape, lifetime_by, lifetimeish, string_literal, string_or_char_literal}
use Rattle.reading.specs.Regex.{hashed, r_word, regex_by, regex_literal, regex_literal_by, regex_token}
use Rattle.reading.specs.Symbols.{arrow_code, arrow_look, bang, colon, dot, equals, half, look, minus, right_arrow, single, singles, stray, tilde}
use Rattle.reading.specs.Words.{code_token, id_token, identifier_by, identifierish, keyword_token, keywords, spells, use_token, word_token}
use Rattle.reading.specs.Shapes.{Attempt}
use Rattle.reading.specs.declared.Call.{Call}
use Rattle.reading.specs.declared.What.{What}
use Rattle.reading.specs.declared.What.TheVariants.{End, Error, Got}
use Rattle.ledger.specs.Answered.{Loses, Says, SaysIn, has_payload, is_string}

-- the kinds of a table have none
abbrev AllPlain : {A : Type 0} → List (A × Kind) → Type 0
AllPlain [] = Unit {0}
AllPlain (k ∷ ks) = (has_payload k.1 ≡ false) × AllPlain ks

keywords-plain : AllPlain keywords
unfolding keywords among
keywords-plain = search depth 40

singles-plain : AllPlain singles
unfolding singles among
singles-plain = search depth 40

abbrev TurnsIn : (Code → Type 0) → Turn → Type 0
TurnsIn Q Stop = Unit {0}
TurnsIn Q (Fail r p m) = Q r.code
TurnsIn Q (Pass p m b) = Unit {0}

record Turns (Q : Code → Type 0) (x : Turn) : Type 0 where
  is : TurnsIn Q x

module _ (rd : Reading) (P : Token → Type 0) (Q : Code → Type 0)
    (bare : (kind : Kind) (o p : ℕ) → has_payload kind ≡ false → P (token_of kind o p o o))
    (rich : (kind : Kind) (o p from to : ℕ) → has_payload kind ≡ true → is_string kind ≡ false → P (token_of kind o p from to))
    (q2 : Q UnterminatedEscape) (q5 : Q UnterminatedStringLiteral) (q6 : Q UnterminatedCharacterLiteral)
    (q8 : Q UnterminatedCode) (q9 : Q ExpectedStringLiteral) (q10 : Q UnterminatedBlockComment) where
  -- ---- what a reader answers
  lose_test : (t : Bool) (x y : Skip) → Loses Q x → Loses Q y → Loses Q (cond t x y)
  lose_test true x y p q = p
  lose_test false x y p q = q

  lose_next : (k : ℕ) (l : List ℕ) (x y : Skip) → Loses Q x → Loses Q y → Loses Q (if_next k l x y)
  unfolding if_next
  lose_next k [] x y p q = q
  lose_next k (c ∷ l) x y p q = lose_test (eqb c k) x y p q

  lose_past : (p m : ℕ) → Loses Q (Ok (p, m))
  lose_past p m = record { is = tt }

  lose_lost : (code : Code) (place p m : ℕ) → Q code → Loses Q (Err (refusal code place, p, m))
  lose_lost code place p m e = record { is = e }

  lose_more : (n : ℕ) (x : Skip) → Loses Q x → Loses Q (skip_more n x)
  lose_more n (Ok (p, m)) h = record { is = tt }
  lose_more n (Err (r, p, m)) h = record { is = h.is }

  lose_through : (code : Code) (o : ℕ) (f : Found) → Q code → Loses Q (through code o f)
  lose_through code o (Ok (p, m)) e = record { is = tt }
  lose_through code o (Err (p, m)) e = record { is = e }

  lose_upto : (f : Found) → Loses Q (up_to f)
  lose_upto (Ok (p, m)) = record { is = tt }
  lose_upto (Err (p, m)) = record { is = tt }

  ruleset loses = (lose_test, lose_next, lose_past, lose_lost, lose_more, lose_through, lose_upto)

  -- ---- a turn of a walk
  turn-test : (t : Bool) (x y : Turn) → Turns Q x → Turns Q y → Turns Q (cond t x y)
  turn-test true x y p q = p
  turn-test false x y p q = q

  turn-stop : Turns Q Stop
  turn-stop = record { is = tt }

  turn_pass : (p m b : ℕ) → Turns Q (Pass p m b)
  turn_pass p m b = record { is = tt }

  turn-skip : (b : ℕ) (x : Skip) → Loses Q x → Turns Q (turn_of b x)
  turn-skip b (Ok (p, m)) h = record { is = tt }
  turn-skip b (Err (r, p, m)) h = record { is = h.is }

  ruleset turn_loses = (turn-test, turn-stop, turn_pass, turn-skip)

  module _ (see : ℕ → ℕ → List ℕ → ℕ → ℕ → Turn) (last : ℕ → ℕ → ℕ → Skip)
      (turns : (b c : ℕ) (cs : List ℕ) (at next : ℕ) → Turns Q (see b c cs at next)) (final : (b at n : ℕ) → Loses Q (last b at n)) where
    lose_from : (k : ℕ) (cs : List ℕ) (b at n : ℕ) → Loses Q (walk_from see last k cs b at n)
    unfolding walk_from
    lose_from k [] b at n = final b at n
    lose_from zero (c ∷ cs) b at n = go (see b c cs at (at + width_of c)) refl (λ j b'. lose_from j cs b' (at + width_of c) (n + 1))
      where
        go : (t : Turn) → see b c cs at (at + width_of c) ≡ t → ((j b' : ℕ) → Loses Q (walk_from see last j cs b' (at + width_of c) (n + 1))) → Loses Q (walk_from see last 0 (c ∷ cs) b at n)
        go Stop e f = rw (e, walk_from) (lose_past at n)
        go (Fail r p m) e f = rw (e, walk_from) (record { is = (rw e at (turns b c cs at (at + width_of c))).is })
        go (Pass p m b') e f = rw (e, walk_from) (f m b')
    lose_from (suc k) (c ∷ cs) b at n = lose_from k cs b (at + width_of c) (n + 1)

  -- ---- code
  module _ (o : ℕ) where
    slash_loses : (cs : List ℕ) (at : ℕ) → Loses Q (slash_skip o cs at)
    unfolding slash_skip
    slash_loses [] at = lose_past at 0
    slash_loses (c ∷ cs) at = search loses

    last_loses : (r : Reading) (at : ℕ) → Loses Q (quote_last r o at)
    unfolding quote_last
    last_loses Old at = lose_lost _ o at 0 q6
    last_loses Kept at = lose_past at 0

    end_loses : (cs : List ℕ) (at : ℕ) → Loses Q (quote_end rd o cs at)
    unfolding quote_end
    end_loses [] at = last_loses rd at
    end_loses (c ∷ cs) at = lose_past at 0

    one_loses : (cs : List ℕ) (at : ℕ) → Loses Q (one_skip rd o cs at)
    unfolding one_skip
    one_loses [] at = end_loses [] at
    one_loses (c ∷ cs) at = search (loses, end_loses)

    esc_loses : (cs : List ℕ) (at : ℕ) → Loses Q (esc_skip rd o cs at)
    unfolding esc_skip
    esc_loses [] at = lose_lost _ o at 0 q6
    esc_loses (c ∷ cs) at = lose_more 1 _ (go (seek Quote cs (at + width_of c)))
      where
        go : (f : Found) → Loses Q (esc_past rd o cs f)
        go (Ok (p, m)) = lose_more (m + 1) _ (end_loses (drop (m + 1) cs) (p + 1))
        go (Err (p, m)) = lose_lost _ o p m q6

    quote_loses : (cs : List ℕ) (at : ℕ) → Loses Q (quote_skip rd o cs at)
    unfolding quote_skip
    quote_loses [] at = lose_lost _ o at 0 q6
    quote_loses (c ∷ cs) at = search (lose_test, lose_more, esc_loses, one_loses)

    body_loses : (m : ℕ) (cs : List ℕ) (p : ℕ) → Loses Q (body_skip rd o m cs p)
    unfolding body_skip
    body_loses m [] p = lose_lost _ o p 0 q5
    body_loses m (c ∷ cs) p = search loses

    hash_loses : (cs : List ℕ) (at : ℕ) → Loses Q (hash_skip rd o cs at)
    hash_loses cs at = go (seek Hashes cs at)
      where
        go : (f : Found) → Loses Q (hash_past rd o cs f)
        go (Ok (p, m)) = lose_more m _ (body_loses m (drop m cs) p)
        go (Err (p, m)) = lose_lost _ o p m q5

  r_loses : (r : ℕ) (cs : List ℕ) (at : ℕ) → Loses Q (r_skip rd r cs at)
  unfolding r_skip
  r_loses r cs at = lose_next 35 cs _ _ (hash_loses (regex_start rd r at) cs at) (lose_past at 0)

  code-turn_loses : (b c : ℕ) (cs : List ℕ) (at next : ℕ) → Turns Q (code_turn rd b c cs at next)
  unfolding code_turn
  code-turn_loses b c cs at next =
      let u = lose_through UnterminatedStringLiteral at (string_end 34 cs next) q5 in
      search (turn_loses, quote_loses, r_loses, slash_loses) depth 14

  code_loses : (o : ℕ) (cs : List ℕ) (at : ℕ) → Loses Q (code_end rd o cs at)
  code_loses o cs at = lose_from (code_turn rd) (code_last o) code-turn_loses (λ b p n. lose_test (eqb b 0) _ _ (lose_past p n) (lose_lost _ o p n q8)) 0 cs 0 at 0

  -- ---- the gap
  comment_loses : (o : ℕ) (cs : List ℕ) (at : ℕ) → Turns Q (comment_turn o cs at)
  unfolding comment_turn
  comment_loses o [] at = turn-stop
  comment_loses o (c ∷ cs) at = search (turn_loses, loses)

  gap-turn_loses : (b c : ℕ) (cs : List ℕ) (at next : ℕ) → Turns Q (gap_turn b c cs at next)
  unfolding gap_turn
  gap-turn_loses b c cs at next = search (turn_loses, comment_loses)

  pub gap_loses : (cs : List ℕ) (at : ℕ) → Loses Q (gap cs at)
  unfolding gap
  gap_loses cs at = lose_from gap_turn gap_last gap-turn_loses (λ b p n. lose_past p n) 0 cs 0 at 0

  -- ---- a call
  says_test : (t : Bool) (x y : Call) → Says P Q x → Says P Q y → Says P Q (cond t x y)
  says_test true x y p q = p
  says_test false x y p q = q

  says_other : (x y : Call) → Says P Q y → Says P Q (cond false x y)
  says_other x y q = q

  says_next : (k : ℕ) (l : List ℕ) (x y : Call) → Says P Q x → Says P Q y → Says P Q (if_next k l x y)
  unfolding if_next
  says_next k [] x y p q = q
  says_next k (c ∷ l) x y p q = says_test (eqb c k) x y p q

  says_deliver : (kind : Kind) (o from to p n : ℕ) → has_payload kind ≡ true → is_string kind ≡ false → Says P Q (deliver kind o from to p n)
  unfolding deliver
  says_deliver kind o from to p n h s = record { is = rich kind o p from to h s }

  says_plain : (kind : Kind) (o p n : ℕ) → has_payload kind ≡ false → Says P Q (plain kind o p n)
  unfolding plain deliver
  says_plain kind o p n h = record { is = bare kind o p h }

  says_refuse : (code : Code) (place p n : ℕ) → Q code → Says P Q (refuse code place p n)
  unfolding refuse
  says_refuse code place p n e = record { is = e }

  says_more : (n : ℕ) (x : Call) → Says P Q x → Says P Q (more n x)
  unfolding more
  says_more n x h = record { is = h.is }

  ruleset says = (says_test, says_next, says_deliver, says_plain, says_more)

  module _ (o : ℕ) (cs : List ℕ) (at : ℕ) where
    bang_says : Says P Q (bang o cs at)
    unfolding among bang
    bang_says = search says

    colon_says : Says P Q (colon o cs at)
    unfolding among colon
    colon_says = search says

    code-token_says : (kind : Kind) (x : Skip) (d : ℕ) → has_payload kind ≡ true → is_string kind ≡ false → Loses Q x → Says P Q (code_token kind o at x d)
    code-token_says kind (Ok (p, m)) d k s h = record { is = (says_deliver kind o at p p m k s).is }
    code-token_says kind (Err (r, p, m)) d k s h = record { is = h.is }

    pub arrow_code_says : (kind : Kind) → has_payload kind ≡ true → is_string kind ≡ false → Says P Q (arrow_code rd kind o cs at)
    unfolding arrow_code
    arrow_code_says kind k s = code-token_says kind _ _ k s (code_loses o cs at)

    use_says : Says P Q (use_token rd o cs at)
    unfolding among use_token
    use_says = code-token_says _ _ _ refl refl (code_loses o cs at)

    id_says : Says P Q (id_token o cs at)
    unfolding among id_token
    id_says = search says

    keyword_says : (ks : List (List ℕ × Kind)) (w : List ℕ) → AllPlain ks → Says P Q (keyword_token ks w o cs at)
    unfolding keyword_token
    keyword_says [] w h = id_says
    keyword_says (k ∷ ks) w h = says_test (spells k.0 w o at) _ _ (says_plain k.1 o at 0 h.0) (keyword_says ks w h.1)

    word_says : (w : List ℕ) → Says P Q (word_token rd w o cs at)
    unfolding among word_token
    word_says w = let u = use_says in let v = keyword_says keywords w keywords-plain in search says

    quoted_says : (kind : Kind) (code : Code) (f : Found) → has_payload kind ≡ true → is_string kind ≡ false → Q code → Says P Q (string_or_char_literal kind code o at f)
    quoted_says kind code (Ok (p, m)) k s e = says_deliver kind o at p (p + 1) (m + 1) k s
    quoted_says kind code (Err (p, m)) k s e = says_refuse code o p m e

    pub escape_says : Says P Q (escape o cs at)
    unfolding among escape
    escape_says = quoted_says _ _ (seek Backtick cs at) refl refl q2

    char_says : Says P Q (char_literal o cs at)
    unfolding among char_literal
    char_says = quoted_says _ _ (string_end 39 cs at) refl refl q6

    lifetime_says : (f : Found) → Says P Q (lifetime_by o cs at f)
    unfolding among
    lifetime_says (Ok (p, m)) = search says
    lifetime_says (Err (p, m)) = says_deliver _ o o p p m refl refl

    regex_says : (n : ℕ) → Says P Q (regex_token o n cs at)
    unfolding among regex_token
    regex_says n = go (regex_end n cs at)
      where
        go : (f : Found) → Says P Q (regex_by o n at f)
        go (Ok (p, m)) = says_deliver _ o at (p - n) (p + 1) (m + 1) refl refl
        go (Err (p, m)) = says_refuse _ o p m q5

  module _ (o : ℕ) where
    pub lifetimeish_says : (cs : List ℕ) (at : ℕ) → Says P Q (lifetimeish o cs at)
    unfolding lifetimeish
    lifetimeish_says [] at = says_refuse _ o at 0 q6
    lifetimeish_says (c ∷ cs) at = says_test (is_identifier_start c) _ _ (lifetime_says o (c ∷ cs) at (seek Word (c ∷ cs) at)) (char_says o (c ∷ cs) at)

    pub identifier_says : (front cs : List ℕ) (at : ℕ) → Says P Q (identifierish rd front o cs at)
    unfolding identifierish
    identifier_says front cs at = go (seek Word cs at)
      where
        go : (f : Found) → Says P Q (identifier_by rd front o cs f)
        go (Ok (p, m)) = says_more m _ (word_says o (drop m cs) p front)
        go (Err (p, m)) = says_more m _ (word_says o (drop m cs) p front)

    hashed_says : (front : List ℕ) (n : ℕ) (cs : List ℕ) (p : ℕ) → Says P Q (hashed rd front o n cs p)
    unfolding hashed
    hashed_says front n [] p = says_refuse _ o p 0 q5
    hashed_says front n (c ∷ cs) p =
        says_test (eqb c 34) _ _ (says_more 1 _ (regex_says o cs (p + width_of c) n))
        (says_test (is_identifier_start c) _ _ (says_more 1 _ (identifier_says front cs (p + width_of c))) (says_refuse _ p p 0 q9))

    regex_literal_says : (front cs : List ℕ) (at : ℕ) → Says P Q (regex_literal rd front o cs at)
    unfolding regex_literal
    regex_literal_says front cs at = go (seek Hashes cs at)
      where
        go : (f : Found) → Says P Q (regex_literal_by rd front o cs f)
        go (Ok (p, m)) = says_more m _ (hashed_says front m (drop m cs) p)
        go (Err (p, m)) = says_refuse _ o p m q5

    pub r_says : (front cs : List ℕ) (at : ℕ) → Says P Q (r_word rd front o cs at)
    unfolding r_word
    r_says front cs at = search (says_next, regex_literal_says, identifier_says)

    -- codes of a failed attempt never show
    pub hash_says : (cs : List ℕ) (at : ℕ) → Says P Q (hash rd o cs at)
    unfolding among hash attribute_token
    hash_says cs at = go (attempt cs at)
      where
        go : (x : Attempt) → Says P Q (hash_by rd o cs at x)
        go (Ok (p, m)) = says_more m _ (record { is = rich _ o p o p refl refl })
        go (Err (p, m)) = says_plain _ o at m refl

    single_says : (ks : List (ℕ × Kind)) (c at : ℕ) (x : Call) → AllPlain ks → Says P Q x → Says P Q (single ks c o at x)
    unfolding single
    single_says [] c at x a h = h
    single_says (k ∷ ks) c at x a h = says_test (eqb c k.0) _ _ (says_plain k.1 o at 1 a.0) (single_says ks c at x a.1 h)

  module _ (strings : (o p from to : ℕ) → P (token_of StringLiteral o p from to)) where
    pub string_says : (o : ℕ) (cs : List ℕ) (at : ℕ) → Says P Q (string_literal o cs at)
    unfolding string_literal deliver
    string_says o cs at = go (string_end 34 cs at)
      where
        go : (f : Found) → Says P Q (string_or_char_literal StringLiteral UnterminatedStringLiteral o at f)
        go (Ok (p, m)) = record { is = strings o (p + 1) at p }
        go (Err (p, m)) = says_refuse _ o p m q5

  -- ---- the two kinds of unknown, and what may answer them
  module _ (q22 : Q HalfSymbol) (q23 : Q StrayCharacter) where
    says_half : (o at : ℕ) → Says P Q (half o at)
    unfolding half
    says_half o at = says_refuse _ o at 0 q22

    says_stray : (o : ℕ) → Says P Q (stray o)
    unfolding stray
    says_stray o = says_refuse _ o o 0 q23

    ruleset halves = (says, says_half)

    module _ (o : ℕ) (cs : List ℕ) (at : ℕ) where
      dot_says : Says P Q (dot o cs at)
      unfolding among dot
      dot_says = search halves

      look_says : Says P Q (look o cs at)
      unfolding among look
      look_says = search halves

      tilde_says : Says P Q (tilde o cs at)
      unfolding among tilde
      tilde_says = search halves

      minus_says : Says P Q (minus o cs at)
      unfolding among minus
      minus_says = search halves

      arrow_look_says : Says P Q (arrow_look o cs at)
      unfolding among arrow_look
      arrow_look_says = search halves

    module _ (o : ℕ) where
      arrow_says : (cs : List ℕ) (at : ℕ) → Says P Q (right_arrow rd o cs at)
      unfolding among right_arrow
      arrow_says [] at = says_refuse _ o at 0 q8
      arrow_says (c ∷ cs) at = search (says, arrow_look_says, arrow_code_says)

      equals_says : (cs : List ℕ) (at : ℕ) → Says P Q (equals rd o cs at)
      unfolding among equals
      equals_says cs at = search (says, arrow_says)

      -- a string starts with its quote, and nothing else does
      starts_says : (c : ℕ) (cs : List ℕ) (at : ℕ) → (eqb c 34 ≡ true → Says P Q (string_literal o cs at)) → Says P Q (starts rd c cs o at)
      unfolding starts
      starts_says c cs at s = go (eqb c 34) refl
        where
          go : (b : Bool) → eqb c 34 ≡ b → Says P Q (starts rd c cs o at)
          go true q = rw (eqb-true c 34 q) (says_more 1 _ (s q))
          go false q =
              rw q
              (search (says_other, says_test, says_more, bang_says, colon_says, dot_says, equals_says, look_says, tilde_says, escape_says, lifetimeish_says, says_half, minus_says, r_says, identifier_says, says_stray) depth 18)

      -- by its first character
      pub first_says : (c : ℕ) (cs : List ℕ) → (eqb c 34 ≡ true → Says P Q (string_literal o cs (o + width_of c))) → Says P Q (token_or_end rd (c ∷ cs) o)
      unfolding token_or_end token
      first_says c cs s =
          says_test (eqb c 35) _ _ (says_more 1 _ (hash_says o cs (o + width_of c)))
          (single_says o singles c (o + width_of c) _ singles-plain (starts_says c cs (o + width_of c) s))

    module _ (strings : (o p from to : ℕ) → P (token_of StringLiteral o p from to)) where
      token_says : (o : ℕ) (cs : List ℕ) → Says P Q (token_or_end rd cs o)
      unfolding token_or_end
      token_says o [] = record { is = tt }
      token_says o (c ∷ cs) = first_says o c cs (λ e. string_says strings o cs (o + width_of c))

      -- where it holds of a record whatever that tells of depths
      module _ (tells : (g d : ℕ) (t : Token) → P t → P (told_token g d t)) where
        told_in : (g d : ℕ) (w : What) → SaysIn P Q w → SaysIn P Q (told_what g d w)
        told_in g d (Got t) h = tells g d t h
        told_in g d (Error r) h = h
        told_in g d End h = h

        says_told : (g : ℕ) (x : Call) → Says P Q x → Says P Q (told g x)
        unfolding told
        says_told g x h = record { is = told_in g _ x.what h.is }

        -- THE LAW, of every call
        pub next_says : (cs : List ℕ) (at : ℕ) → Says P Q (next rd cs at)
        unfolding next
        next_says cs at = go (gap cs at) (gap_loses cs at)
          where
            go : (x : Skip) → Loses Q x → Says P Q (next_by rd cs x (gap_depth_of cs at))
            go (Ok (p, m)) h = says_told _ _ (says_more m _ (token_says p (drop m cs)))
            go (Err (r, p, m)) h = record { is = h.is }
