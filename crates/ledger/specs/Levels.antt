-- WHAT A TOKEN TELLS OF DEPTHS, by a walk of all readers of a call. 02, E4: "a record keeps two, for the gap before it and for its code". `use` and both `=>`
-- take code, and tell its depth; of every other kind it is 0.
use Rattle.std.specs.Prelude.{◌+◌, ◌-◌, ◌≤◌, ℕ, Bool, cond, drop, length, Some, Ok, Err}
use Rattle.std.proofs.Common.{arith, ◌∙◌, sym, length-drop, drop-drop, eqb-true}
use Rattle.std.proofs.Math.Bool.{false, true}
use mathlib.Core.List.{List, [], ◌∷◌}
use Rattle.std.proofs.Math.Path.{◌≡◌, ap, refl}
use Rattle.std.proofs.Math.Dec.{eqb}
use Rattle.utf8.specs.Utf8.{width_of}
use Rattle.unicode_xid.specs.Identifier.{is_identifier_start}
use Rattle.record.specs.Codes.{among}
use Rattle.record.specs.Numbers.{kind_number}
use Rattle.record.specs.declared.Code.{Code}
use Rattle.record.specs.declared.Kind.{Kind}
use Rattle.record.specs.declared.Kind.TheVariants.{EqualsGreaterThanCode, EqualsGreaterThanQuestionCode, Use}
use Rattle.record.specs.declared.Refusal.{Refusal}
use Rattle.record.specs.declared.Token.{Token}
use Rattle.record.specs.declared.Reading.{Reading}
use Rattle.scan.specs.Far.{Far, far_left, far_none, one_far, then}
use Rattle.scan.specs.IfNext.{if_next}
use Rattle.scan.specs.Passes.{Sound, seek-at, seek-none}
use Rattle.scan.specs.Readers.{regex_end, string_end}
use Rattle.scan.specs.Seek.{seek}
use Rattle.scan.specs.Until.{left}
use Rattle.scan.specs.Shapes.{Found}
use Rattle.scan.specs.Shapes.{Skip}
use Rattle.scan.specs.declared.Sought.TheVariants.{Backtick, Hashes, Word}
use Rattle.code.specs.Code.{code_depth_of, code_end}
use Rattle.reading.specs.Answers.{deliver, fail, more, plain, refuse, told, told_what}
use Rattle.reading.specs.Attribute.{attempt, attribute_token, hash, hash_by}
use Rattle.reading.specs.Gaps.{gap, gap_depth_of}
use Rattle.reading.specs.Next.{next, next_by, starts, token, token_or_end}
use Rattle.reading.specs.Passes.{gap_sound}
use Rattle.reading.specs.Quotes.{char_literal, escape, lifetime_by, lifetimeish, string_literal, string_or_char_literal}
use Rattle.reading.specs.Regex.{hashed, r_word, regex_by, regex_literal, regex_literal_by, regex_token}
use Rattle.reading.specs.Symbols.{arrow_code, arrow_look, bang, colon, dot, equals, half, look, minus, right_arrow, single, singles, stray, tilde}
use Rattle.reading.specs.Words.{code_token, id_token, identifier_by, identifierish, keyword_token, keywords, spells, use_token, word_token}
use Rattle.reading.specs.Shapes.{Attempt}
use Rattle.reading.specs.declared.Call.{Call}
use Rattle.reading.specs.declared.What.{What}
use Rattle.reading.specs.declared.What.TheVariants.{End, Error, Got}
use Rattle.ledger.specs.Small.{code-small, gap-small}
use Rattle.ledger.specs.Untold.{untold}

-- the kinds that take code
abbrev pub takes_code : Kind → Bool
takes_code kind = among (kind_number kind) (kind_number Use ∷ kind_number EqualsGreaterThanCode ∷ kind_number EqualsGreaterThanQuestionCode ∷ [])

-- the kinds of a table take none
abbrev AllFlat : {A : Type 0} → List (A × Kind) → Type 0
AllFlat [] = Unit {0}
AllFlat (k ∷ ks) = (takes_code k.1 ≡ false) × AllFlat ks

keywords-flat : AllFlat keywords
unfolding keywords among
keywords-flat = search depth 40

singles-flat : AllFlat singles
unfolding singles among
singles-flat = search depth 40

no : {A : Type 0} → true ≡ false → A
no e = let w : ◌≡◌ {A = ℕ} 0 1 = cc in absurd (omega arith)

-- ---- what a call tells, its token tells
record Tells (cs : List ℕ) (at : ℕ) (x : Call) (t : Token) : Type 0 where
  gap_is : x.gap_depth ≡ gap_depth_of cs at
  gap-tells : t.gap_depth ≡ Some x.gap_depth
  code-tells : t.code_depth ≡ Some x.code_depth

-- in every reading
module _ (rd : Reading) where
  -- some of the characters cs lead from the place at to the place p, and the code from there on goes d deep
  pub record Coded (cs : List ℕ) (at d p : ℕ) : Type 0 where
    pub passed : ℕ
    pub far : Far cs at passed p
    pub depth : d ≡ code_depth_of rd (drop passed cs) p

  -- what an answer with the depth d says, by a reader of the characters cs at the place at
  abbrev pub LevelIn : List ℕ → ℕ → ℕ → What → Type 0
  LevelIn cs at d (Got t) = (takes_code t.kind ≡ true → Coded cs at d t.payload_start) × (takes_code t.kind ≡ false → d ≡ 0)
  LevelIn cs at d (Error r) = d ≡ 0
  LevelIn cs at d End = d ≡ 0

  pub record Level (cs : List ℕ) (at : ℕ) (x : Call) : Type 0 where
    pub is : LevelIn cs at x.code_depth x.what

  -- ---- what a reader answers
  module _ (cs : List ℕ) (at : ℕ) where
    level_test : (t : Bool) (x y : Call) → Level cs at x → Level cs at y → Level cs at (cond t x y)
    level_test true x y p q = p
    level_test false x y p q = q

    level_next : (k : ℕ) (l : List ℕ) (x y : Call) → Level cs at x → Level cs at y → Level cs at (if_next k l x y)
    unfolding if_next
    level_next k [] x y p q = q
    level_next k (c ∷ l) x y p q = level_test (eqb c k) x y p q

    level_deliver : (kind : Kind) (o from to p n : ℕ) → takes_code kind ≡ false → Level cs at (deliver kind o from to p n)
    unfolding deliver
    level_deliver kind o from to p n f = record { is = (λ t. no (sym t ∙ f), λ _. refl) }

    level_plain : (kind : Kind) (o p n : ℕ) → takes_code kind ≡ false → Level cs at (plain kind o p n)
    unfolding plain
    level_plain kind o p n f = level_deliver kind o o o p n f

    level_fail : (r : Refusal) (p n : ℕ) → Level cs at (fail r p n)
    level_fail r p n = record { is = refl }

    level_refuse : (code : Code) (place p n : ℕ) → Level cs at (refuse code place p n)
    unfolding refuse
    level_refuse code place p n = record { is = refl }

    level_half : (o p : ℕ) → Level cs at (half o p)
    unfolding half
    level_half o p = level_refuse _ o p 0

    level_stray : (o : ℕ) → Level cs at (stray o)
    unfolding stray
    level_stray o = level_refuse _ o o 0

    level_more : (n : ℕ) (x : Call) → Level cs at x → Level cs at (more n x)
    unfolding more
    level_more n x h = record { is = h.is }

    -- what is said after some characters is said before them
    coded-later : (m p d q : ℕ) → Far cs at m p → Coded (drop m cs) p d q → Coded cs at d q
    coded-later m p d q f h = record {
      passed = m + h.passed;
      far = then m cs at p h.passed q f h.far;
      depth = rw (← (drop-drop h.passed m cs)) h.depth;
    }

    later_in : (m p d : ℕ) (w : What) → Far cs at m p → LevelIn (drop m cs) p d w → LevelIn cs at d w
    later_in m p d (Got t) f h = (λ k. coded-later m p d t.payload_start f (h.0 k), h.1)
    later_in m p d (Error r) f h = h
    later_in m p d End f h = h

    level_later : (m p n : ℕ) (x : Call) → Far cs at m p → Level (drop m cs) p x → Level cs at (more n x)
    level_later m p n x f h = level_more n x (record { is = later_in m p x.code_depth x.what f h.is })

  level_one : (c : ℕ) (cs : List ℕ) (at : ℕ) (x : Call) → Level cs (at + width_of c) x → Level (c ∷ cs) at (more 1 x)
  level_one c cs at x h = level_later (c ∷ cs) at 1 (at + width_of c) 1 x (one_far c cs at) h

  ruleset levels = (level_test, level_next, level_deliver, level_plain, level_refuse, level_half, level_more)

  -- ---- the readers that read no code: they say the same of any characters
  module _ (cs : List ℕ) (at : ℕ) (o : ℕ) (l : List ℕ) (p : ℕ) where
    bang_level : Level cs at (bang o l p)
    unfolding among bang
    bang_level = search levels

    colon_level : Level cs at (colon o l p)
    unfolding among colon
    colon_level = search levels

    dot_level : Level cs at (dot o l p)
    unfolding among dot
    dot_level = search levels

    look_level : Level cs at (look o l p)
    unfolding among look
    look_level = search levels

    tilde_level : Level cs at (tilde o l p)
    unfolding among tilde
    tilde_level = search levels

    minus_level : Level cs at (minus o l p)
    unfolding among minus
    minus_level = search levels

    arrow_look_level : Level cs at (arrow_look o l p)
    unfolding among arrow_look
    arrow_look_level = search levels

    id_level : Level cs at (id_token o l p)
    unfolding among id_token
    id_level = search levels

    keyword_level : (ks : List (List ℕ × Kind)) (w : List ℕ) → AllFlat ks → Level cs at (keyword_token ks w o l p)
    unfolding keyword_token
    keyword_level [] w h = id_level
    keyword_level (k ∷ ks) w h = level_test cs at (spells k.0 w o p) _ _ (level_plain cs at k.1 o p 0 h.0) (keyword_level ks w h.1)

    quoted_level : (kind : Kind) (code : Code) (f : Found) → takes_code kind ≡ false → Level cs at (string_or_char_literal kind code o p f)
    quoted_level kind code (Ok (q, m)) k = level_deliver cs at kind o p q (q + 1) (m + 1) k
    quoted_level kind code (Err (q, m)) k = level_refuse cs at code o q m

    escape_level : Level cs at (escape o l p)
    unfolding among escape
    escape_level = quoted_level _ _ (seek Backtick l p) refl

    string_level : Level cs at (string_literal o l p)
    unfolding among string_literal
    string_level = quoted_level _ _ (string_end 34 l p) refl

    char_level : Level cs at (char_literal o l p)
    unfolding among char_literal
    char_level = quoted_level _ _ (string_end 39 l p) refl

    lifetime_level : (f : Found) → Level cs at (lifetime_by o l p f)
    unfolding among
    lifetime_level (Ok (q, m)) = search levels
    lifetime_level (Err (q, m)) = level_deliver cs at _ o o q q m refl

    regex_level : (n : ℕ) → Level cs at (regex_token o n l p)
    unfolding among regex_token
    regex_level n = go (regex_end n l p)
      where
        go : (f : Found) → Level cs at (regex_by o n p f)
        go (Ok (q, m)) = level_deliver cs at _ o p (q - n) (q + 1) (m + 1) refl
        go (Err (q, m)) = level_refuse cs at _ o q m

    hash_level : Level cs at (hash rd o l p)
    unfolding among hash attribute_token
    hash_level = go (attempt l p)
      where
        go : (x : Attempt) → Level cs at (hash_by rd o l p x)
        go (Ok (q, m)) = level_more cs at m _ (record { is = (λ t. no (sym t), λ _. refl) })
        go (Err (q, m)) = level_plain cs at _ o p m refl

  lifetimeish_level : (cs : List ℕ) (at o : ℕ) (l : List ℕ) (p : ℕ) → Level cs at (lifetimeish o l p)
  unfolding lifetimeish
  lifetimeish_level cs at o [] p = level_refuse cs at _ o p 0
  lifetimeish_level cs at o (c ∷ l) p =
      level_test cs at (is_identifier_start c) _ _ (lifetime_level cs at o (c ∷ l) p (seek Word (c ∷ l) p)) (char_level cs at o (c ∷ l) p)

  single_level : (cs : List ℕ) (at : ℕ) (ks : List (ℕ × Kind)) (c o p : ℕ) (x : Call) → AllFlat ks → Level cs at x → Level cs at (single ks c o p x)
  unfolding single
  single_level cs at [] c o p x a h = h
  single_level cs at (k ∷ ks) c o p x a h = level_test cs at (eqb c k.0) _ _ (level_plain cs at k.1 o p 1 a.0) (single_level cs at ks c o p x a.1 h)

  -- ---- the readers that may come to code
  module _ (o : ℕ) (cs : List ℕ) (at : ℕ) where
    code-token_level : (kind : Kind) (x : Skip) → takes_code kind ≡ true → Level cs at (code_token kind o at x (code_depth_of rd cs at))
    unfolding deliver
    code-token_level kind (Ok (p, m)) k = record { is = (λ _. record { passed = 0; far = far_none cs at; depth = refl }, λ f. no (sym k ∙ f)) }
    code-token_level kind (Err (r, p, m)) k = level_fail cs at r p m

    arrow_code_level : (kind : Kind) → takes_code kind ≡ true → Level cs at (arrow_code rd kind o cs at)
    unfolding arrow_code
    arrow_code_level kind k = code-token_level kind (code_end rd o cs at) k

    use_level : Level cs at (use_token rd o cs at)
    unfolding among use_token
    use_level = code-token_level _ (code_end rd o cs at) refl

    word_level : (w : List ℕ) → Level cs at (word_token rd w o cs at)
    unfolding among word_token
    word_level w = let u = use_level in let v = keyword_level cs at o cs at keywords w keywords-flat in search levels

  module _ (o : ℕ) where
    arrow_level : (cs : List ℕ) (at : ℕ) → Level cs at (right_arrow rd o cs at)
    unfolding among right_arrow
    arrow_level [] at = level_refuse [] at _ o at 0
    arrow_level (c ∷ cs) at =
        let u = level_one c cs at _ (arrow_look_level cs (at + width_of c) o cs (at + width_of c)) in
        let v = level_one c cs at _ (arrow_code_level o cs (at + width_of c) EqualsGreaterThanQuestionCode refl) in
        let w = arrow_code_level o (c ∷ cs) at EqualsGreaterThanCode refl in
        search level_test

    -- the second character, which is one byte wide
    arrow_next : (cs : List ℕ) (at : ℕ) (y : Call) → Level cs at y → Level cs at (if_next 62 cs (more 1 (right_arrow rd o (drop 1 cs) (at + 1))) y)
    unfolding if_next width_of
    arrow_next [] at y h = h
    arrow_next (c ∷ cs) at y h = go (eqb c 62) refl
      where
        go : (t : Bool) → eqb c 62 ≡ t → Level (c ∷ cs) at (cond (eqb c 62) (more 1 (right_arrow rd o cs (at + 1))) y)
        go true q =
            let v : at + width_of c ≡ at + 1 = ap (λ (j : ℕ). at + width_of j) (eqb-true c 62 q) in
            rw q (level_one c cs at _ (rw v (arrow_level cs (at + 1))))
        go false q = rw q h

    equals_level : (cs : List ℕ) (at : ℕ) → Level cs at (equals rd o cs at)
    unfolding among equals
    equals_level cs at = level_next cs at 61 cs _ _ (level_plain cs at _ o (at + 1) 1 refl) (arrow_next cs at _ (level_plain cs at _ o at 0 refl))

    identifier_level : (front cs : List ℕ) (at : ℕ) → Level cs at (identifierish rd front o cs at)
    unfolding identifierish
    identifier_level front cs at = go (seek Word cs at) refl
      where
        go : (f : Found) → seek Word cs at ≡ f → Level cs at (identifier_by rd front o cs f)
        go (Ok (p, m)) e = level_later cs at m p m _ (seek-at cs at p m Word e) (word_level o (drop m cs) p front)
        go (Err (p, m)) e = level_later cs at m p m _ (seek-none cs at p m Word e) (word_level o (drop m cs) p front)

    hashed_level : (front : List ℕ) (n : ℕ) (cs : List ℕ) (p : ℕ) → Level cs p (hashed rd front o n cs p)
    unfolding hashed
    hashed_level front n [] p = level_refuse [] p _ o p 0
    hashed_level front n (c ∷ cs) p =
        level_test (c ∷ cs) p (eqb c 34) _ _ (level_more (c ∷ cs) p 1 _ (regex_level (c ∷ cs) p o cs (p + width_of c) n))
        (level_test (c ∷ cs) p (is_identifier_start c) _ _ (level_one c cs p _ (identifier_level front cs (p + width_of c))) (level_refuse (c ∷ cs) p _ p p 0))

    regex_literal_level : (front cs : List ℕ) (at : ℕ) → Level cs at (regex_literal rd front o cs at)
    unfolding regex_literal
    regex_literal_level front cs at = go (seek Hashes cs at) refl
      where
        go : (f : Found) → seek Hashes cs at ≡ f → Level cs at (regex_literal_by rd front o cs f)
        go (Ok (p, m)) e = level_later cs at m p m _ (seek-at cs at p m Hashes e) (hashed_level front m (drop m cs) p)
        go (Err (p, m)) e = level_refuse cs at _ o p m

    r_level : (front cs : List ℕ) (at : ℕ) → Level cs at (r_word rd front o cs at)
    unfolding r_word
    r_level front cs at = search (level_next, regex_literal_level, identifier_level)

  -- ---- a call
  starts_level : (c : ℕ) (cs : List ℕ) (o : ℕ) → Level (c ∷ cs) o (starts rd c cs o (o + width_of c))
  unfolding starts
  starts_level c cs o =
      search (level_test, level_one, bang_level, colon_level, dot_level, equals_level, look_level, tilde_level, escape_level, lifetimeish_level, string_level, level_half, minus_level, r_level, identifier_level, level_stray) depth 18

  token_level : (cs : List ℕ) (o : ℕ) → Level cs o (token_or_end rd cs o)
  unfolding token_or_end token
  token_level [] o = record { is = refl }
  token_level (c ∷ cs) o =
      level_test (c ∷ cs) o (eqb c 35) _ _ (level_more (c ∷ cs) o 1 _ (hash_level (c ∷ cs) o o cs (o + width_of c)))
      (single_level (c ∷ cs) o singles c o (o + width_of c) _ singles-flat (starts_level c cs o))

  told_in : (cs : List ℕ) (at g d : ℕ) (w : What) → LevelIn cs at d w → LevelIn cs at d (told_what g d w)
  told_in cs at g d (Got t) h = h
  told_in cs at g d (Error r) h = h
  told_in cs at g d End h = h

  level_told : (cs : List ℕ) (at g : ℕ) (x : Call) → Level cs at x → Level cs at (told g x)
  unfolding told
  level_told cs at g x h = record { is = told_in cs at g x.code_depth x.what h.is }

  -- THE LAW, of every call
  pub next_level : (cs : List ℕ) (at : ℕ) → Level cs at (next rd cs at)
  unfolding next
  next_level cs at = go (gap cs at) refl (gap_sound cs at)
    where
      go : (x : Skip) → gap cs at ≡ x → Sound cs at (gap cs at) → Level cs at (next_by rd cs x (gap_depth_of cs at))
      go (Ok (p, m)) e h =
          let f : Far cs at m p = (rw e at h).is in
          level_told cs at (gap_depth_of cs at) _ (level_later cs at m p m _ f (token_level (drop m cs) p))
      go (Err (r, p, m)) e h = level_fail cs at r p m

  module _ (cs : List ℕ) (at : ℕ) (t : Token) where
    tells : (next rd cs at).what ≡ Got t → Tells cs at (next rd cs at) t
    unfolding next told
    tells e = go (gap cs at) e
      where
        go : (x : Skip) → (next_by rd cs x (gap_depth_of cs at)).what ≡ Got t → Tells cs at (next_by rd cs x (gap_depth_of cs at)) t
        go (Ok (p, m)) e =
            let y = more m (token_or_end rd (drop m cs) p) in
            let u = untold (gap_depth_of cs at) y.code_depth y.what t e in
            record { gap_is = refl; gap-tells = ap (λ (z : Token). z.gap_depth) u.with_depths; code-tells = ap (λ (z : Token). z.code_depth) u.with_depths }
        go (Err (r, p, m)) e = let w : ◌≡◌ {A = ℕ} 0 1 = cc in absurd (omega arith)

    level_got : (next rd cs at).what ≡ Got t → LevelIn cs at (next rd cs at).code_depth (Got t)
    level_got e = rw e at (next_level cs at).is

  -- ---- THE THEOREMS. Of a token of the text s from the place at on
  module _ (s : List ℕ) (at : ℕ) (t : Token) (got : (next rd (left s at) at).what ≡ Got t) where
    -- it tells the depth of its gap
    pub gap-told : t.gap_depth ≡ Some (gap_depth_of (left s at) at)
    gap-told = let h = tells (left s at) at t got in h.gap-tells ∙ ap Some h.gap_is

    -- a kind that takes code tells the depth of its code, which starts where its payload does
    pub code-told : takes_code t.kind ≡ true → t.code_depth ≡ Some (code_depth_of rd (left s t.payload_start) t.payload_start)
    code-told k =
        let h = (level_got (left s at) at t got).0 k in
        let f : drop h.passed (left s at) ≡ left s t.payload_start = far_left s at h.passed t.payload_start h.far in
        (tells (left s at) at t got).code-tells ∙ ap Some (h.depth ∙ ap (λ (l : List ℕ). code_depth_of rd l t.payload_start) f)

    -- every other kind tells 0
    pub flat-told : takes_code t.kind ≡ false → t.code_depth ≡ Some 0
    flat-told k = (tells (left s at) at t got).code-tells ∙ ap Some ((level_got (left s at) at t got).1 k)

  -- the end comes with the depth of the last gap
  pub last-told : (s : List ℕ) (at : ℕ) → (next rd (left s at) at).what ≡ End → (next rd (left s at) at).gap_depth ≡ gap_depth_of (left s at) at
  unfolding next told
  last-told s at e = go (gap (left s at) at) e
    where
      go : (x : Skip) → (next_by rd (left s at) x (gap_depth_of (left s at) at)).what ≡ End → (next_by rd (left s at) x (gap_depth_of (left s at) at)).gap_depth ≡ gap_depth_of (left s at) at
      go (Ok (p, m)) e = refl
      go (Err (r, p, m)) e = let w : ◌≡◌ {A = ℕ} 0 1 = cc in absurd (omega arith)

  -- both depths of a call that delivers a token are no greater than the characters there are, and its token tells both
  pub next_small : (cs : List ℕ) (at : ℕ) (t : Token) → (next rd cs at).what ≡ Got t
      → ((next rd cs at).gap_depth ≤ length cs) × ((next rd cs at).code_depth ≤ length cs) × (t.gap_depth ≡ Some (next rd cs at).gap_depth) × (t.code_depth ≡ Some (next rd cs at).code_depth)
  next_small cs at t e = let h = tells cs at t e in (rw h.gap_is (gap-small cs at), code (takes_code t.kind) refl, h.gap-tells, h.code-tells)
    where
      code : (b : Bool) → takes_code t.kind ≡ b → (next rd cs at).code_depth ≤ length cs
      code true k =
          let h = (level_got cs at t e).0 k in
          let l = code-small rd (drop h.passed cs) t.payload_start in
          let n = length-drop h.passed cs in
          rw h.depth (omega arith)
      code false k = rw ((level_got cs at t e).1 k) (omega arith)
