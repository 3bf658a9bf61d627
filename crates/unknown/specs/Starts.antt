-- What a token's start answers of the two: a walk of the dispatch.
use Rattle.std.specs.Prelude.{◌+◌, ℕ, Bool, ◌&&◌, ◌||◌, cond, ◌≡◌, drop}
use Rattle.std.proofs.Math.Bool.{false, not, true}
use mathlib.Core.List.{List, [], ◌∷◌}
use Rattle.std.proofs.Common.{◌∙◌, ap, sym, eq-eqb, eqb-true}
use Rattle.std.proofs.Math.Path.{refl}
use Rattle.std.proofs.Math.Dec.{eqb}
use Rattle.utf8.specs.Utf8.{width_of}
use Rattle.unicode_xid.specs.Identifier.{is_identifier_start}
use Rattle.unicode_xid.specs.Ranges.{holds, in_ranges}
use Rattle.unicode_xid.specs.Tables.{start_ranges}
use Rattle.unicode_xid.specs.Whitespace.{is_whitespace}
use Rattle.record.specs.Codes.{among, not-true}
use Rattle.record.specs.Numbers.{code_number}
use Rattle.record.specs.Rust.{is_finer}
use Rattle.record.specs.declared.Kind.{Kind}
use Rattle.record.specs.declared.Reading.{Reading}
use Rattle.scan.specs.IfNext.{if_next}
use Rattle.reading.specs.Answers.{deliver, more, plain, refuse}
use Rattle.reading.specs.Attribute.{hash}
use Rattle.reading.specs.Next.{starts, token, token_or_end}
use Rattle.reading.specs.Quotes.{escape, lifetimeish, string_literal}
use Rattle.reading.specs.Regex.{r_word}
use Rattle.reading.specs.Symbols.{arrow_look, bang, colon, dot, equals, half, look, minus, right_arrow, single, singles, stray, tilde}
use Rattle.reading.specs.Words.{identifierish}
use Rattle.reading.specs.declared.Call.{Call}
use Rattle.reading.specs.declared.What.{What}
use Rattle.reading.specs.declared.What.TheVariants.{End, Error, Got}
use Rattle.ledger.specs.Answered.{Says, SaysIn}
use Rattle.unknown.specs.Shared.{Any, Coarse, code-coarse, escape-coarse, hash-coarse, lifetime_coarse, r_coarse, string_coarse, word_coarse}
use Rattle.unknown.specs.Stops.{over}
use Rattle.unknown.specs.Unknowns.{firsts, half_arrow, half_equals, half_look, is_half, is_stray, longer, unknown_of, without}

-- the number of an answer that is unknown at the place o; 99 for one at another place, 0 for any other answer
abbrev pub told : ℕ → What → ℕ
told o (Got t) = 0
told o (Error r) = cond (is_finer (code_number r.code)) (cond (eqb r.place o) (code_number r.code) 99) 0
told o End = 0

record Tells (o n : ℕ) (x : Call) : Type 0 where
  is : told o x.what ≡ n

-- ---- what the readers tell
abbrev looks : List ℕ → ℕ
looks cs = if_next 76 cs 0 (if_next 82 cs 0 22)

unfoldable arrows : List ℕ → ℕ
arrows [] = 0
arrows (c ∷ cs) = cond (eqb c 64) (looks cs) 0

-- ---- and what the characters say
one_out : (k : ℕ) (cs : List ℕ) → ◌≡◌ {A = ℕ} (if_next k cs 0 22) (cond (without k cs) 22 0)
unfolding if_next
one_out k [] = refl
one_out k (c ∷ cs) = go (eqb c k)
  where
    go : (b : Bool) → ◌≡◌ {A = ℕ} (cond b 0 22) (cond (cond b false true) 22 0)
    go true = refl
    go false = refl

both_out : (j k : ℕ) (cs : List ℕ) → ◌≡◌ {A = ℕ} (if_next j cs 0 (if_next k cs 0 22)) (cond (without j cs && without k cs) 22 0)
unfolding if_next
both_out j k [] = refl
both_out j k (c ∷ cs) = go (eqb c j) (eqb c k)
  where
    go : (a b : Bool) → ◌≡◌ {A = ℕ} (cond a 0 (cond b 0 22)) (cond (cond a false true && cond b false true) 22 0)
    go true b = refl
    go false true = refl
    go false false = refl

arrows_say : (cs : List ℕ) → arrows cs ≡ cond (half_arrow cs) 22 0
unfolding arrows half_arrow
arrows_say [] = refl
arrows_say (c ∷ cs) = go (eqb c 64)
  where
    go : (b : Bool) → ◌≡◌ {A = ℕ} (cond b (if_next 76 cs 0 (if_next 82 cs 0 22)) 0) (cond (cond b (half_look cs) false) 22 0)
    go true = both_out 76 82 cs
    go false = refl

equals_say : (cs : List ℕ) → ◌≡◌ {A = ℕ} (if_next 61 cs 0 (if_next 62 cs (arrows (drop 1 cs)) 0)) (cond (half_equals cs) 22 0)
unfolding if_next half_equals
equals_say [] = refl
equals_say (c ∷ cs) = go (eqb c 62) refl
  where
    none : (a : Bool) → ◌≡◌ {A = ℕ} (cond a 0 0) 0
    none true = refl
    none false = refl

    go : (b : Bool) → eqb c 62 ≡ b → ◌≡◌ {A = ℕ} (cond (eqb c 61) 0 (cond (eqb c 62) (arrows cs) 0)) (cond (cond (eqb c 62) (half_arrow cs) false) 22 0)
    go true q = rw (eqb-true c 62 q) (arrows_say cs)
    go false q = rw q (none (eqb c 61))

slash_says : (cs : List ℕ) → over (47 ∷ cs) ≡ true → 22 ≡ unknown_of (47 ∷ cs)
unfolding unknown_of is_half over
slash_says cs h = rw h

-- a character that starts something else
word_says : (a b w : Bool) → not (a || (b || (w || true))) ≡ false
word_says true b w = refl
word_says false true w = refl
word_says false false true = refl
word_says false false false = refl

-- in every reading
module _ (rd : Reading) where
  module _ (o : ℕ) where
    coarse : (w : What) → SaysIn Any Coarse w → told o w ≡ 0
    coarse (Got t) h = refl
    coarse (Error r) h = rw h
    coarse End h = refl

    tells-coarse : (x : Call) → Says Any Coarse x → Tells o 0 x
    tells-coarse x h = record { is = coarse x.what h.is }

    tells_more : (k n : ℕ) (x : Call) → Tells o n x → Tells o n (more k x)
    unfolding more
    tells_more k n x h = record { is = h.is }

    tells-test : (t : Bool) (n m : ℕ) (x y : Call) → Tells o n x → Tells o m y → Tells o (cond t n m) (cond t x y)
    tells-test true n m x y p q = p
    tells-test false n m x y p q = q

    tells-next : (k : ℕ) (cs : List ℕ) (n m : ℕ) (x y : Call) → Tells o n x → Tells o m y → Tells o (if_next k cs n m) (if_next k cs x y)
    unfolding if_next
    tells-next k [] n m x y p q = q
    tells-next k (c ∷ cs) n m x y p q = tells-test (eqb c k) n m x y p q

    tells-plain : (kind : Kind) (a p n : ℕ) → Tells o 0 (plain kind a p n)
    unfolding plain deliver
    tells-plain kind a p n = record { is = refl }

    tells-half : (at : ℕ) → Tells o 22 (half o at)
    unfolding half refuse
    tells-half at = record { is = rw (eq-eqb o o refl) }

    tells-stray : Tells o 23 (stray o)
    unfolding stray refuse
    tells-stray = record { is = rw (eq-eqb o o refl) }

    ruleset tells = (tells-next, tells_more, tells-plain, tells-half)

    module _ (cs : List ℕ) (at : ℕ) where
      dot-tells : Tells o (if_next 46 cs 0 22) (dot o cs at)
      unfolding dot
      dot-tells = search tells

      look-tells : Tells o (looks cs) (look o cs at)
      unfolding look
      look-tells = search tells

      tilde-tells : Tells o (if_next 126 cs 0 22) (tilde o cs at)
      unfolding tilde
      tilde-tells = search tells

      minus-tells : Tells o (if_next 62 cs 0 22) (minus o cs at)
      unfolding minus
      minus-tells = search tells

      arrow_look-tells : Tells o (looks cs) (arrow_look o cs at)
      unfolding arrow_look
      arrow_look-tells = search tells

    tells_both : (t : Bool) (n : ℕ) (x y : Call) → Tells o n x → Tells o n y → Tells o n (cond t x y)
    tells_both true n x y p q = p
    tells_both false n x y p q = q

    next_both : (k : ℕ) (cs : List ℕ) (n : ℕ) (x y : Call) → Tells o n x → Tells o n y → Tells o n (if_next k cs x y)
    unfolding if_next
    next_both k [] n x y p q = q
    next_both k (c ∷ cs) n x y p q = tells_both (eqb c k) n x y p q

    bang-tells : (cs : List ℕ) (at : ℕ) → Tells o 0 (bang o cs at)
    unfolding bang
    bang-tells cs at = search (next_both, tells-plain)

    colon-tells : (cs : List ℕ) (at : ℕ) → Tells o 0 (colon o cs at)
    unfolding colon
    colon-tells cs at = search (next_both, tells-plain)

    arrow_tells : (cs : List ℕ) (at : ℕ) → Tells o (arrows cs) (right_arrow rd o cs at)
    unfolding right_arrow arrows refuse among
    arrow_tells [] at = record { is = refl }
    arrow_tells (c ∷ cs) at =
        tells-test (eqb c 64) (looks cs) 0 _ _ (tells_more 1 _ _ (arrow_look-tells cs (at + width_of c)))
        (tells_both (eqb c 63) 0 _ _ (tells_more 1 0 _ (tells-coarse _ (code-coarse rd o cs (at + width_of c) _ refl refl))) (tells-coarse _ (code-coarse rd o (c ∷ cs) at _ refl refl)))

    equals-tells : (cs : List ℕ) (at : ℕ) → Tells o (if_next 61 cs 0 (if_next 62 cs (arrows (drop 1 cs)) 0)) (equals rd o cs at)
    unfolding equals
    equals-tells cs at = search (tells, arrow_tells)

  -- ---- the dispatch: a token starts with c, where no gap goes on
  module _ (o c : ℕ) (cs : List ℕ) (h : over (c ∷ cs) ≡ true) where
    -- c is the character k
    like : (k n : ℕ) (x : Call) → n ≡ unknown_of (k ∷ cs) → Tells o n x → eqb c k ≡ true → Tells o (unknown_of (c ∷ cs)) x
    like k n x e t q = record { is = t.is ∙ e ∙ ap (λ (d : ℕ). unknown_of (d ∷ cs)) (sym (eqb-true c k q)) }

    abbrev Ends : List (ℕ × Kind) → Type 0
    Ends [] = Unit {0}
    Ends (k ∷ ks) = (0 ≡ unknown_of (k.0 ∷ cs)) × Ends ks

    singles-end : Ends singles
    unfolding singles unknown_of is_half is_stray firsts among
    singles-end = search depth 40

    single-tells : (ks : List (ℕ × Kind)) (at : ℕ) (x : Call) → Ends ks → (among c (firsts ks) ≡ false → Tells o (unknown_of (c ∷ cs)) x)
        → Tells o (unknown_of (c ∷ cs)) (single ks c o at x)
    unfolding single among firsts
    single-tells [] at x e f = f refl
    single-tells (k ∷ ks) at x e f = go (eqb c k.0) refl (λ g. single-tells ks at x e.1 g)
      where
        go : (b : Bool) → eqb c k.0 ≡ b → ((among c (firsts ks) ≡ false → Tells o (unknown_of (c ∷ cs)) x) → Tells o (unknown_of (c ∷ cs)) (single ks c o at x))
            → Tells o (unknown_of (c ∷ cs)) (cond (eqb c k.0) (plain k.1 o at 1) (single ks c o at x))
        go true q g = rw q (like k.0 0 (plain k.1 o at 1) e.0 (tells-plain o k.1 o at 1) q)
        go false q g = rw q (g (λ z. f (rw (q, z))))

    -- ---- by its first character, which is no hash and no symbol of one character
    module _ (at : ℕ) (hash-no : eqb c 35 ≡ false) (single-no : among c (firsts singles) ≡ false) where
      pick : (t : Bool) (x y : Call) → (t ≡ true → Tells o (unknown_of (c ∷ cs)) x) → (t ≡ false → Tells o (unknown_of (c ∷ cs)) y) → Tells o (unknown_of (c ∷ cs)) (cond t x y)
      pick true x y f g = f refl
      pick false x y f g = g refl

      at-bang : eqb c 33 ≡ true → Tells o (unknown_of (c ∷ cs)) (more 1 (bang o cs at))
      unfolding unknown_of is_half is_stray firsts singles longer among
      at-bang = like 33 0 _ refl (tells_more o 1 0 _ (bang-tells o cs at))

      at-colon : eqb c 58 ≡ true → Tells o (unknown_of (c ∷ cs)) (more 1 (colon o cs at))
      unfolding unknown_of is_half is_stray firsts singles longer among
      at-colon = like 58 0 _ refl (tells_more o 1 0 _ (colon-tells o cs at))

      at-dot : eqb c 46 ≡ true → Tells o (unknown_of (c ∷ cs)) (more 1 (dot o cs at))
      unfolding unknown_of is_half is_stray firsts singles longer among
      at-dot = like 46 _ _ (one_out 46 cs) (tells_more o 1 _ _ (dot-tells o cs at))

      at-equals : eqb c 61 ≡ true → Tells o (unknown_of (c ∷ cs)) (more 1 (equals rd o cs at))
      unfolding unknown_of is_half is_stray firsts singles longer among
      at-equals = like 61 _ _ (equals_say cs) (tells_more o 1 _ _ (equals-tells o cs at))

      at-look : eqb c 64 ≡ true → Tells o (unknown_of (c ∷ cs)) (more 1 (look o cs at))
      unfolding unknown_of is_half is_stray firsts singles longer among
      at-look = like 64 _ _ (both_out 76 82 cs) (tells_more o 1 _ _ (look-tells o cs at))

      at-tilde : eqb c 126 ≡ true → Tells o (unknown_of (c ∷ cs)) (more 1 (tilde o cs at))
      unfolding unknown_of is_half is_stray firsts singles longer among
      at-tilde = like 126 _ _ (one_out 126 cs) (tells_more o 1 _ _ (tilde-tells o cs at))

      at_backtick : eqb c 96 ≡ true → Tells o (unknown_of (c ∷ cs)) (more 1 (escape o cs at))
      unfolding unknown_of is_half is_stray firsts singles longer among
      at_backtick = like 96 0 _ refl (tells_more o 1 0 _ (tells-coarse o _ (escape-coarse o cs at)))

      at_quote : eqb c 39 ≡ true → Tells o (unknown_of (c ∷ cs)) (more 1 (lifetimeish o cs at))
      unfolding unknown_of is_half is_stray firsts singles longer among
      at_quote = like 39 0 _ refl (tells_more o 1 0 _ (tells-coarse o _ (lifetime_coarse o cs at)))

      at_string : eqb c 34 ≡ true → Tells o (unknown_of (c ∷ cs)) (more 1 (string_literal o cs at))
      unfolding unknown_of is_half is_stray firsts singles longer among
      at_string = like 34 0 _ refl (tells_more o 1 0 _ (tells-coarse o _ (string_coarse o cs at)))

      at_slash : eqb c 47 ≡ true → Tells o (unknown_of (c ∷ cs)) (more 1 (half o at))
      at_slash q = like 47 22 _ (slash_says cs (let e = eqb-true c 47 q in rw e at h)) (tells_more o 1 22 _ (tells-half o at)) q

      at-minus : eqb c 45 ≡ true → Tells o (unknown_of (c ∷ cs)) (more 1 (minus o cs at))
      unfolding unknown_of is_half is_stray firsts singles longer among
      at-minus = like 45 _ _ (one_out 62 cs) (tells_more o 1 _ _ (minus-tells o cs at))

      at_r : eqb c 114 ≡ true → Tells o (unknown_of (c ∷ cs)) (more 1 (r_word rd (c ∷ cs) o cs at))
      unfolding unknown_of is_half is_stray firsts singles longer among start_ranges in_ranges holds
      at_r = like 114 0 _ refl (tells_more o 1 0 _ (tells-coarse o _ (r_coarse rd o cs at (c ∷ cs))))

      -- what is left is no half of a symbol
      module _ (n46 : eqb c 46 ≡ false) (n126 : eqb c 126 ≡ false) (n45 : eqb c 45 ≡ false) (n47 : eqb c 47 ≡ false) (n64 : eqb c 64 ≡ false) (n61 : eqb c 61 ≡ false) where
        at_word : is_identifier_start c ≡ true → Tells o (unknown_of (c ∷ cs)) (more 1 (identifierish rd (c ∷ cs) o cs at))
        unfolding unknown_of is_half is_stray
        at_word q =
            let e = word_says (among c (firsts singles)) (among c longer) (is_whitespace c) in
            rw (n46, n126, n45, n47, n64, n61, q, e) (tells_more o 1 0 _ (tells-coarse o _ (word_coarse rd o cs at (c ∷ cs))))

        at-stray : eqb c 33 ≡ false → eqb c 58 ≡ false → eqb c 96 ≡ false → eqb c 39 ≡ false → eqb c 34 ≡ false → is_identifier_start c ≡ false → Tells o (unknown_of (c ∷ cs)) (stray o)
        unfolding unknown_of is_half is_stray longer among over
        at-stray n33 n58 n96 n39 n34 q =
            let w : not (is_whitespace c) ≡ true = rw n47 at h in
            let z : is_whitespace c ≡ false = not-true (is_whitespace c) w in
            rw (single-no, n33, n58, n46, n61, n64, n126, n96, n39, n34, n47, n45, hash-no, z, q) (tells-stray o)

      starts-tell : Tells o (unknown_of (c ∷ cs)) (starts rd c cs o at)
      unfolding starts
      starts-tell = search (pick, at-bang, at-colon, at-dot, at-equals, at-look, at-tilde, at_backtick, at_quote, at_string, at_slash, at-minus, at_r, at_word, at-stray) depth 30

    at-hash : (at : ℕ) → eqb c 35 ≡ true → Tells o (unknown_of (c ∷ cs)) (more 1 (hash rd o cs at))
    unfolding unknown_of is_half is_stray firsts singles longer among
    at-hash at = like 35 0 _ refl (tells_more o 1 0 _ (tells-coarse o _ (hash-coarse rd o cs at)))

    token-tells : (at : ℕ) → Tells o (unknown_of (c ∷ cs)) (token rd c cs o at)
    unfolding token
    token-tells at = go (eqb c 35) refl
      where
        go : (b : Bool) → eqb c 35 ≡ b → Tells o (unknown_of (c ∷ cs)) (cond (eqb c 35) (more 1 (hash rd o cs at)) (single singles c o at (starts rd c cs o at)))
        go true q = rw q (at-hash at q)
        go false q = rw q (single-tells singles at _ singles-end (λ n. starts-tell at q n))

  -- THE LAW: at a place where no gap goes on
  pub first-told : (cs : List ℕ) (o : ℕ) → over cs ≡ true → told o (token_or_end rd cs o).what ≡ unknown_of cs
  unfolding token_or_end unknown_of is_half is_stray
  first-told [] o h = refl
  first-told (c ∷ cs) o h = (token-tells o c cs h (o + width_of c)).is
