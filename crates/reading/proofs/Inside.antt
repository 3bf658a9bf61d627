-- The places of a call's answer: a payload lies in its span, a refusal's place before the cursor, and neither before the call's own start; and
-- stepping over characters comes to both ends of a payload.
use Rattle.std.specs.Prelude.{ℕ, ◌+◌, ◌-◌, ◌≤◌, Bool, cond, ◌≡◌, drop, Ok, Err}
use native.Mathlib.Omega.{arith}
use Rattle.std.proofs.Math.Bool.{true, false}
use mathlib.Core.List.{List, [], ◌∷◌}
use Rattle.std.proofs.Math.Path.{refl}
use Rattle.std.proofs.Math.Dec.{eqb}
use Rattle.utf8.specs.Utf8.{width_of}
use Rattle.unicode_xid.specs.Identifier.{is_identifier_start}
use Rattle.record.specs.declared.Code.{Code}
use Rattle.record.specs.declared.Kind.{Kind}
use Rattle.record.specs.declared.Kind.TheVariants.{CharLiteral, EqualsGreaterThanCode, EqualsGreaterThanQuestionCode, Lifetime}
use Rattle.record.specs.declared.Reading.{Reading}
use Rattle.scan.specs.Far.{Far, from_0, until-before}
use Rattle.scan.specs.IfNext.{if_next}
use Rattle.scan.specs.Near.{Near, NearTurn, block_near, far_on, near_more, near_past, near_turns, regex_long, upto_near, walk_near}
use Rattle.scan.specs.Passes.{Sound, regex_past, regex_none, seek-at, seek-none, string_none}
use Rattle.scan.specs.Readers.{regex_end, str_done, str_step, string_end}
use Rattle.scan.specs.Seek.{seek}
use Rattle.scan.specs.Shapes.{Found}
use Rattle.scan.specs.Shapes.{Skip}
use Rattle.scan.specs.declared.Sought.TheVariants.{Backtick, Hashes, Newline, Word}
use Rattle.scan.specs.declared.Str.TheVariants.{Plain}
use Rattle.code.specs.Laws.{code_sound}
use Rattle.code.specs.Near.{code_near}
use Rattle.reading.specs.Answers.{deliver, more, plain, refuse, told, told_what}
use Rattle.reading.specs.Attribute.{attempt, attribute_token, hash, hash_by}
use Rattle.reading.specs.CallLaw.{Tried, attempt_tried, tail_far}
use Rattle.reading.specs.Gaps.{comment_turn, gap, gap_depth_of, gap_last, gap_turn}
use Rattle.reading.specs.Next.{next, next_by, starts, token, token_or_end}
use Rattle.reading.specs.Passes.{gap_sound}
use Rattle.reading.specs.Quotes.{char_literal, escape, lifetime_by, lifetimeish, string_or_char_literal, string_literal}
use Rattle.reading.specs.Reached.{Ahead, Reached, ahead_here, ahead_on, ahead_one, ahead_reached, next_far, regex_quote}
use Rattle.reading.specs.Regex.{hashed, r_word, regex_by, regex_literal, regex_literal_by, regex_token}
use Rattle.reading.specs.Symbols.{arrow_code, arrow_look, bang, colon, dot, equals, half, look, minus, right_arrow, single, singles, stray, tilde}
use Rattle.reading.specs.Words.{code_token, id_token, identifier_by, identifierish, keyword_token, keywords, spells, use_token, word_token}
use Rattle.reading.specs.Shapes.{Attempt}
use Rattle.reading.specs.declared.Call.{Call}
use Rattle.reading.specs.declared.What.{What}
use Rattle.reading.specs.declared.What.TheVariants.{End, Error, Got}

-- from o on, up to the cursor p
abbrev pub InsideIn : ℕ → ℕ → What → Type 0
InsideIn o p (Got t) =
    (o ≤ t.start) × (t.start ≤ t.payload_start) × (t.payload_start ≤ t.payload_end) × (t.payload_end ≤ t.end) × (t.end ≤ p)
InsideIn o p (Error r) = (o ≤ r.place) × (r.place ≤ p)
InsideIn o p End = Unit {0}

-- P holds of both ends of a payload
abbrev pub EndsIn : (ℕ → Type 0) → What → Type 0
EndsIn P (Got t) = P t.payload_start × P t.payload_end
EndsIn P (Error r) = Unit {0}
EndsIn P End = Unit {0}

pub record Inside (P : ℕ → Type 0) (o : ℕ) (x : Call) : Type 0 where
  pub is : InsideIn o x.at x.what
  pub ends : EndsIn P x.what

-- the gap before it
comment_near : (o : ℕ) (cs : List ℕ) (at : ℕ) → o ≤ at → NearTurn o (comment_turn o cs at)
unfolding comment_turn
comment_near o [] at h = search near_turns
comment_near o (c ∷ cs) at h =
    let u = upto_near o (c ∷ cs) at h Newline in
    let v = near_more o 1 _ (block_near o cs (at + width_of c) (omega arith)) in
    search near_turns

gap-turn_near : (b c : ℕ) (cs : List ℕ) (at : ℕ) → NearTurn at (gap_turn b c cs at (at + width_of c))
unfolding gap_turn
gap-turn_near b c cs at =
    let u = comment_near at cs (at + width_of c) (omega arith) in
    search near_turns

gap_near : (cs : List ℕ) (at : ℕ) → Near at (gap cs at)
unfolding gap
gap_near cs at = walk_near gap_turn gap_last at gap-turn_near (λ b p n h. near_past at p n h) 0 cs at (omega arith)

lower : (o q : ℕ) (p : ℕ) (g d : ℕ) (w : What) → o ≤ q → InsideIn q p w → InsideIn o p (told_what g d w)
lower o q p g d (Got t) h i = (omega arith, i.1, i.2, i.3, i.4)
lower o q p g d (Error r) h i = (omega arith, i.1)
lower o q p g d End h i = tt

told-ends : (P : ℕ → Type 0) (g d : ℕ) (w : What) → EndsIn P w → EndsIn P (told_what g d w)
told-ends P g d (Got t) h = h
told-ends P g d (Error r) h = h
told-ends P g d End h = h

-- in every reading
module _ (rd : Reading) where
  module _ (P : ℕ → Type 0) (o : ℕ) (here : P o) where
    inside-test : (t : Bool) (x y : Call) → Inside P o x → Inside P o y → Inside P o (cond t x y)
    inside-test true x y p q = p
    inside-test false x y p q = q

    inside-next : (k : ℕ) (l : List ℕ) (x y : Call) → Inside P o x → Inside P o y → Inside P o (if_next k l x y)
    unfolding if_next
    inside-next k [] x y p q = q
    inside-next k (c ∷ l) x y p q = inside-test (eqb c k) x y p q

    -- where the next character, one byte wide, is passed
    inside-mark : (k : ℕ) (l : List ℕ) (at : ℕ) (x y : Call) → width_of k ≡ 1 → (Far l at 1 (at + 1) → Inside P o x) → Inside P o y → Inside P o (if_next k l x y)
    unfolding if_next
    inside-mark k [] at x y w p q = q
    inside-mark k (c ∷ l) at x y w p q = go (eqb c k) refl
      where
        go : (t : Bool) → eqb c k ≡ t → Inside P o (cond (eqb c k) x y)
        go true e = rw e (p (next_far k c l at w e))
        go false e = rw e q

    inside-deliver : (kind : Kind) (from to p n : ℕ) → o ≤ from → from ≤ to → to ≤ p → P from → P to → Inside P o (deliver kind o from to p n)
    unfolding deliver
    inside-deliver kind from to p n a b c d e = record { is = (omega arith, a, b, c, omega arith); ends = (d, e) }

    inside-plain : (kind : Kind) (p n : ℕ) → o ≤ p → Inside P o (plain kind o p n)
    unfolding plain
    inside-plain kind p n a = inside-deliver kind o o p n (omega arith) (omega arith) a here here

    inside-refuse : (code : Code) (place p n : ℕ) → o ≤ place → place ≤ p → Inside P o (refuse code place p n)
    unfolding refuse
    inside-refuse code place p n a b = record { is = (a, b); ends = tt }

    inside-more : (n : ℕ) (x : Call) → Inside P o x → Inside P o (more n x)
    unfolding more
    inside-more n x h = record { is = h.is; ends = h.ends }

    inside-half : (at : ℕ) → o ≤ at → Inside P o (half o at)
    unfolding half
    inside-half at h = inside-refuse _ o at 0 (omega arith) h

    inside-stray : Inside P o (stray o)
    unfolding stray
    inside-stray = inside-refuse _ o o 0 (omega arith) (omega arith)

    module _ (cs : List ℕ) (at : ℕ) (h : o ≤ at) where
      -- a place further on
      on : o ≤ at + 1
      on = omega arith

      bang-inside : Inside P o (bang o cs at)
      unfolding bang
      bang-inside = let i = on in search (inside-next, inside-plain)

      colon-inside : Inside P o (colon o cs at)
      unfolding colon
      colon-inside = let i = on in search (inside-next, inside-plain)

      dot-inside : Inside P o (dot o cs at)
      unfolding dot
      dot-inside = let i = on in search (inside-next, inside-plain, inside-half)

      look-inside : Inside P o (look o cs at)
      unfolding look
      look-inside = let i = on in search (inside-next, inside-plain, inside-half)

      tilde-inside : Inside P o (tilde o cs at)
      unfolding tilde
      tilde-inside = let i = on in search (inside-next, inside-plain, inside-half)

      minus-inside : Inside P o (minus o cs at)
      unfolding minus
      minus-inside = let i = on in search (inside-next, inside-plain, inside-half)

      arrow_look-inside : Inside P o (arrow_look o cs at)
      unfolding arrow_look
      arrow_look-inside = let i = on in search (inside-next, inside-plain, inside-half)

    module _ (cs : List ℕ) (at : ℕ) (h : o ≤ at) (a : Ahead P cs at) where
      at_here : P at
      at_here = ahead_here P cs at a

      -- code
      code-token-inside : (kind : Kind) (x : Skip) (d : ℕ) → Sound cs at x → Near o x → Inside P o (code_token kind o at x d)
      code-token-inside kind (Ok (p, m)) d s n =
          let g = far_on cs at m p s.is in
          let i = inside-deliver kind at p p m h (omega arith) (omega arith) at_here (a.all m p s.is) in
          record { is = i.is; ends = i.ends }
      code-token-inside kind (Err (r, p, m)) d s n = record { is = n.is; ends = tt }

      arrow_code-inside : (kind : Kind) → Inside P o (arrow_code rd kind o cs at)
      unfolding arrow_code
      arrow_code-inside kind = code-token-inside kind _ _ (code_sound rd o cs at) (code_near rd o cs at h)

      use_inside : Inside P o (use_token rd o cs at)
      unfolding use_token
      use_inside = code-token-inside _ _ _ (code_sound rd o cs at) (code_near rd o cs at h)

      id_inside : Inside P o (id_token o cs at)
      unfolding id_token
      id_inside = let i : o ≤ o = omega arith in let j : at ≤ at = omega arith in let k = at_here in search (inside-next, inside-deliver)

      keyword_inside : (ks : List (List ℕ × Kind)) (w : List ℕ) → Inside P o (keyword_token ks w o cs at)
      unfolding keyword_token
      keyword_inside [] w = id_inside
      keyword_inside (k ∷ ks) w = inside-test (spells k.0 w o at) _ _ (inside-plain k.1 at 0 h) (keyword_inside ks w)

      word_inside : (w : List ℕ) → Inside P o (word_token rd w o cs at)
      unfolding word_token
      word_inside w =
          let v = use_inside in
          let k = keyword_inside keywords w in
          search (inside-test, inside-plain)

      -- quotes
      quoted_inside : (kind : Kind) (code : Code) (f : Found) → ((p m : ℕ) → f ≡ Ok (p, m) → Far cs at m p) → ((p m : ℕ) → f ≡ Err (p, m) → Far cs at m p)
          → Inside P o (string_or_char_literal kind code o at f)
      quoted_inside kind code (Ok (p, m)) b c =
          let g = far_on cs at m p (b p m refl) in
          inside-deliver kind at p (p + 1) (m + 1) h (omega arith) (omega arith) at_here (a.all m p (b p m refl))
      quoted_inside kind code (Err (p, m)) b c = let g = far_on cs at m p (c p m refl) in inside-refuse code o p m (omega arith) (omega arith)

      string_before : (q p m : ℕ) → string_end q cs at ≡ Ok (p, m) → Far cs at m p
      string_before q p m e = from_0 cs at m p (until-before (str_step q) str_done p m cs Plain at 0 e)

      escape-inside : Inside P o (escape o cs at)
      unfolding escape
      escape-inside = quoted_inside _ _ (seek Backtick cs at) (λ p m. seek-at cs at p m Backtick) (λ p m. seek-none cs at p m Backtick)

      string_inside : Inside P o (string_literal o cs at)
      unfolding string_literal
      string_inside = quoted_inside _ _ (string_end 34 cs at) (λ p m. string_before 34 p m) (λ p m. string_none cs at p m 34)

      char_inside : Inside P o (char_literal o cs at)
      unfolding char_literal
      char_inside = quoted_inside _ _ (string_end 39 cs at) (λ p m. string_before 39 p m) (λ p m. string_none cs at p m 39)

      lifetime_inside : Inside P o (lifetime_by o cs at (seek Word cs at))
      lifetime_inside = go (seek Word cs at) refl
        where
          go : (f : Found) → seek Word cs at ≡ f → Inside P o (lifetime_by o cs at f)
          go (Ok (p, m)) e =
              let f = seek-at cs at p m Word e in
              let g = far_on cs at m p f in
              inside-next 39 (drop m cs) _ _ (inside-deliver CharLiteral at p (p + 1) (m + 1) h (omega arith) (omega arith) at_here (a.all m p f))
              (inside-deliver Lifetime o p p m (omega arith) (omega arith) (omega arith) here (a.all m p f))
          go (Err (p, m)) e =
              let f = seek-none cs at p m Word e in
              let g = far_on cs at m p f in
              inside-deliver Lifetime o p p m (omega arith) (omega arith) (omega arith) here (a.all m p f)

      -- a regex
      regex_inside : (n : ℕ) → Inside P o (regex_token o n cs at)
      unfolding regex_token
      regex_inside n = go (regex_end n cs at) refl
        where
          go : (f : Found) → regex_end n cs at ≡ f → Inside P o (regex_by o n at f)
          go (Ok (p, m)) e =
              let g = far_on cs at (m + 1) (p + 1) (regex_past cs at p m n e) in
              let l = regex_long n cs at p m e in
              inside-deliver _ at (p - n) (p + 1) (m + 1) h (omega arith) (omega arith) at_here (regex_quote P n cs at p m a e)
          go (Err (p, m)) e = let g = far_on cs at m p (regex_none cs at p m n e) in inside-refuse _ o p m (omega arith) (omega arith)

    arrow_inside : (cs : List ℕ) (at : ℕ) → o ≤ at → Ahead P cs at → Inside P o (right_arrow rd o cs at)
    unfolding right_arrow
    arrow_inside [] at h a = inside-refuse _ o at 0 (omega arith) h
    arrow_inside (c ∷ cs) at h a =
        let i : o ≤ at + width_of c = omega arith in
        let u = inside-more 1 _ (arrow_look-inside cs (at + width_of c) i) in
        let v = inside-more 1 _ (arrow_code-inside cs (at + width_of c) i (ahead_one P cs at c a) EqualsGreaterThanQuestionCode) in
        let w = arrow_code-inside (c ∷ cs) at h a EqualsGreaterThanCode in
        search inside-test

    equals-inside : (cs : List ℕ) (at : ℕ) → o ≤ at → Ahead P cs at → Inside P o (equals rd o cs at)
    unfolding equals width_of
    equals-inside cs at h a =
        let i : o ≤ at + 1 = omega arith in
        inside-next 61 cs _ _ (inside-plain _ (at + 1) 1 i)
        (inside-mark 62 cs at _ _ refl (λ f. inside-more 1 _ (arrow_inside (drop 1 cs) (at + 1) i (ahead_on P cs at 1 (at + 1) a f))) (inside-plain _ at 0 h))

    lifetimeish-inside : (cs : List ℕ) (at : ℕ) → o ≤ at → Ahead P cs at → Inside P o (lifetimeish o cs at)
    unfolding lifetimeish
    lifetimeish-inside [] at h a = inside-refuse _ o at 0 (omega arith) h
    lifetimeish-inside (c ∷ cs) at h a = inside-test (is_identifier_start c) _ _ (lifetime_inside (c ∷ cs) at h a) (char_inside (c ∷ cs) at h a)

    identifier_inside : (front cs : List ℕ) (at : ℕ) → o ≤ at → Ahead P cs at → Inside P o (identifierish rd front o cs at)
    unfolding identifierish
    identifier_inside front cs at h a = go (seek Word cs at) refl
      where
        to : (p m : ℕ) → Far cs at m p → Inside P o (more m (word_token rd front o (drop m cs) p))
        to p m f = let g = far_on cs at m p f in inside-more m _ (word_inside (drop m cs) p (omega arith) (ahead_on P cs at m p a f) front)

        go : (f : Found) → seek Word cs at ≡ f → Inside P o (identifier_by rd front o cs f)
        go (Ok (p, m)) e = to p m (seek-at cs at p m Word e)
        go (Err (p, m)) e = to p m (seek-none cs at p m Word e)

    hashed-inside : (front : List ℕ) (n : ℕ) (cs : List ℕ) (p : ℕ) → o ≤ p → Ahead P cs p → Inside P o (hashed rd front o n cs p)
    unfolding hashed
    hashed-inside front n [] p h a = inside-refuse _ o p 0 (omega arith) h
    hashed-inside front n (c ∷ cs) p h a =
        let i : o ≤ p + width_of c = omega arith in
        let j : p ≤ p = omega arith in
        let b = ahead_one P cs p c a in
        let u = inside-more 1 _ (regex_inside cs (p + width_of c) i b n) in
        let v = inside-more 1 _ (identifier_inside front cs (p + width_of c) i b) in
        search (inside-test, inside-refuse)

    regex_literal-inside : (front cs : List ℕ) (at : ℕ) → o ≤ at → Ahead P cs at → Inside P o (regex_literal rd front o cs at)
    unfolding regex_literal
    regex_literal-inside front cs at h a = go (seek Hashes cs at) refl
      where
        go : (f : Found) → seek Hashes cs at ≡ f → Inside P o (regex_literal_by rd front o cs f)
        go (Ok (p, m)) e =
            let f = seek-at cs at p m Hashes e in
            let g = far_on cs at m p f in
            inside-more m _ (hashed-inside front m (drop m cs) p (omega arith) (ahead_on P cs at m p a f))
        go (Err (p, m)) e = let g = far_on cs at m p (seek-none cs at p m Hashes e) in inside-refuse _ o p m (omega arith) (omega arith)

    r_inside : (front cs : List ℕ) (at : ℕ) → o ≤ at → Ahead P cs at → Inside P o (r_word rd front o cs at)
    unfolding r_word
    r_inside front cs at h a =
        inside-next 35 cs _ _ (regex_literal-inside front cs at h a)
        (inside-next 34 cs _ _ (regex_literal-inside front cs at h a) (identifier_inside front cs at h a))

    -- an attribute, or a hash
    hash-inside : (cs : List ℕ) (at : ℕ) → o ≤ at → Ahead P cs at → Inside P o (hash rd o cs at)
    unfolding hash attribute_token
    hash-inside cs at h a = go (attempt cs at) (attempt_tried cs at)
      where
        go : (x : Attempt) → Tried cs at x → Inside P o (hash_by rd o cs at x)
        go (Ok (p, m)) t =
            let g = far_on cs at m p t.is in
            let k = far_on (drop m cs) p _ _ (tail_far rd (drop m cs) p) in
            inside-more m _ (record { is = (omega arith, omega arith, omega arith, omega arith, omega arith); ends = (here, a.all m p t.is) })
        go (Err (p, m)) t = inside-plain _ at m h

    single-inside : (ks : List (ℕ × Kind)) (c at : ℕ) (x : Call) → o ≤ at → Inside P o x → Inside P o (single ks c o at x)
    unfolding single
    single-inside [] c at x h i = i
    single-inside (k ∷ ks) c at x h i = inside-test (eqb c k.0) _ _ (inside-plain k.1 at 1 h) (single-inside ks c at x h i)

    starts-inside : (c : ℕ) (cs : List ℕ) (at : ℕ) → o ≤ at → Ahead P cs at → Inside P o (starts rd c cs o at)
    unfolding starts
    starts-inside c cs at h a =
        search (inside-test, inside-more, bang-inside, colon-inside, dot-inside, equals-inside, look-inside, tilde-inside, escape-inside, lifetimeish-inside, string_inside, inside-half, minus-inside, r_inside, identifier_inside, inside-stray) depth 18

    token-inside : (cs : List ℕ) → Ahead P cs o → Inside P o (token_or_end rd cs o)
    unfolding token_or_end token
    token-inside [] a = record { is = tt; ends = tt }
    token-inside (c ∷ cs) a =
        let h : o ≤ o + width_of c = omega arith in
        let b = ahead_one P cs o c a in
        inside-test (eqb c 35) _ _ (inside-more 1 _ (hash-inside cs (o + width_of c) h b)) (single-inside singles c (o + width_of c) _ h (starts-inside c cs (o + width_of c) h b))

  -- of every call
  pub next-inside : (cs : List ℕ) (at : ℕ) → Inside (Reached cs at) at (next rd cs at)
  unfolding next more told
  next-inside cs at = go (gap cs at) (gap_near cs at) (gap_sound cs at)
    where
      go : (x : Skip) → Near at x → Sound cs at x → Inside (Reached cs at) at (next_by rd cs x (gap_depth_of cs at))
      go (Ok (p, m)) n s =
          let g = far_on cs at m p s.is in
          let a = ahead_on (Reached cs at) cs at m p (ahead_reached cs at) s.is in
          let i = token-inside (Reached cs at) p (ahead_here (Reached cs at) (drop m cs) p a) (drop m cs) a in
          let x = token_or_end rd (drop m cs) p in
          record { is = lower at p x.at _ _ x.what (omega arith) i.is; ends = told-ends (Reached cs at) _ _ x.what i.ends }
      go (Err (r, p, m)) n s = record { is = n.is; ends = tt }
