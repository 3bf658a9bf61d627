-- ONE CALL: where it meets none of the three places, both readings answer the same.
use Rattle.std.specs.Prelude.{◌+◌, ℕ, Bool, cond, false, true, ◌≡◌, refl, eqb, drop, Ok, Err}
use mathlib.Core.List.{List, [], ◌∷◌}
use Rattle.std.proofs.Common.{◌∙◌, ap}
use borrow.Author.Tests.{eqb-true}
use Rattle.utf8.specs.Chars.{'#, '=, '>, '?, 'at, 'dquote, 'r}
use Rattle.utf8.specs.Utf8.{width_of}
use Rattle.unicode_xid.specs.Identifier.{is_identifier_start}
use Rattle.record.specs.declared.Kind.{Kind}
use Rattle.record.specs.declared.Reading.TheVariants.{Kept, Old}
use Rattle.scan.specs.IfNext.{if_next}
use Rattle.scan.specs.Seek.{seek}
use Rattle.scan.specs.Shapes.{Found}
use Rattle.scan.specs.Shapes.{Skip}
use Rattle.scan.specs.declared.Sought.TheVariants.{Hashes, Word}
use Rattle.reading.specs.Answers.{more, told}
use Rattle.reading.specs.Attribute.{attempt, attribute_token, dropped, hash, hash_by}
use Rattle.reading.specs.Gaps.{gap, gap_depth_of}
use Rattle.reading.specs.Next.{next, next_by, starts, token, token_or_end}
use Rattle.reading.specs.Regex.{hashed, r_word, regex_literal, regex_literal_by}
use Rattle.reading.specs.Symbols.{arrow_code, equals, right_arrow, single, singles}
use Rattle.reading.specs.Words.{identifier_by, identifierish, spells, use_token, use_word, word_token}
use Rattle.reading.specs.Shapes.{Attempt}
use Rattle.reading.specs.declared.Call.{Call}
use Rattle.kept.specs.Covers.{code_same, no}
use Rattle.kept.specs.Places.{arrow_meets, code_meets, equals_meets, first_meets, followed, meets, meets_by, some, token_meets, word_meets, word_meets_by}

-- two answers, one of each reading, that are one
record One (x y : Call) : Type 0 where
  is : x ≡ y

one_same : (x : Call) → One x x
one_same x = record { is = refl }

one_more : (n : ℕ) (x y : Call) → One x y → One (more n x) (more n y)
one_more n x y h = record { is = ap (more n) h.is }

one-test : (t : Bool) (x y v w : Call) → (t ≡ true → One x v) → (t ≡ false → One y w) → One (cond t x y) (cond t v w)
one-test true x y v w f g = f refl
one-test false x y v w f g = g refl

-- ---- code
arrow_code-one : (kind : Kind) (o : ℕ) (cs : List ℕ) (at : ℕ) → code_meets cs at ≡ false → One (arrow_code Old kind o cs at) (arrow_code Kept kind o cs at)
unfolding arrow_code
arrow_code-one kind o cs at e = let h = code_same o cs at e in record { is = rw (h.0, h.1) }

use_one : (o : ℕ) (cs : List ℕ) (at : ℕ) → code_meets cs at ≡ false → One (use_token Old o cs at) (use_token Kept o cs at)
unfolding use_token
use_one o cs at e = let h = code_same o cs at e in record { is = rw (h.0, h.1) }

-- after =>, and after =
arrow_one : (o : ℕ) (cs : List ℕ) (at : ℕ) → arrow_meets cs at ≡ false → One (right_arrow Old o cs at) (right_arrow Kept o cs at)
unfolding arrow_meets right_arrow
arrow_one o [] at e = one_same _
arrow_one o (c ∷ cs) at e =
    one-test (eqb c 'at) _ _ _ _ (λ p. one_same _)
    (λ p. one-test (eqb c '?) _ _ _ _ (λ q. one_more 1 _ _ (arrow_code-one _ o cs (at + width_of c) (rw (p, q) at e))) (λ q. arrow_code-one _ o (c ∷ cs) at (rw (p, q) at e)))

equals-one : (o : ℕ) (cs : List ℕ) (at : ℕ) → equals_meets cs at ≡ false → One (equals Old o cs at) (equals Kept o cs at)
unfolding equals_meets equals if_next
equals-one o [] at e = one_same _
equals-one o (c ∷ cs) at e =
    one-test (eqb c '=) _ _ _ _ (λ p. one_same _)
    (λ p. one-test (eqb c '>) _ _ _ _ (λ q. one_more 1 _ _ (arrow_one o cs (at + 1) (rw (p, q) at e))) (λ q. one_same _))

-- ---- words
word_one : (w : List ℕ) (o : ℕ) (cs : List ℕ) (p : ℕ) → cond (spells use_word w o p) (code_meets cs p) false ≡ false → One (word_token Old w o cs p) (word_token Kept w o cs p)
unfolding word_token
word_one w o cs p e =
    let u : spells use_word w o p ≡ true → One (use_token Old o cs p) (use_token Kept o cs p) = λ q. use_one o cs p (rw q at e) in
    search (one-test, one_same) depth 10

identifier_one : (front : List ℕ) (o : ℕ) (cs : List ℕ) (at : ℕ) → word_meets front o cs at ≡ false → One (identifierish Old front o cs at) (identifierish Kept front o cs at)
unfolding word_meets identifierish
identifier_one front o cs at e = go (seek Word cs at) e
  where
    go : (f : Found) → word_meets_by front o cs f ≡ false → One (identifier_by Old front o cs f) (identifier_by Kept front o cs f)
    go (Ok (p, m)) e = one_more m _ _ (word_one front o (drop m cs) p e)
    go (Err (p, m)) e = one_more m _ _ (word_one front o (drop m cs) p e)

-- a word that starts with r is not `use`
r_word_lem : (l : List ℕ) (o : ℕ) (cs : List ℕ) (at : ℕ) → word_meets ('r ∷ l) o cs at ≡ false
unfolding word_meets spells
r_word_lem l o cs at = go (seek Word cs at)
  where
    go : (f : Found) → word_meets_by ('r ∷ l) o cs f ≡ false
    go (Ok (p, m)) = refl
    go (Err (p, m)) = refl

module _ (l : List ℕ) (o : ℕ) where
  hashed-one : (h : ℕ) (cs : List ℕ) (p : ℕ) → One (hashed Old ('r ∷ l) o h cs p) (hashed Kept ('r ∷ l) o h cs p)
  unfolding hashed
  hashed-one h [] p = one_same _
  hashed-one h (c ∷ cs) p =
      one-test (eqb c 'dquote) _ _ _ _ (λ q. one_same _)
      (λ q. one-test (is_identifier_start c) _ _ _ _ (λ i. one_more 1 _ _ (identifier_one ('r ∷ l) o cs (p + width_of c) (r_word_lem l o cs (p + width_of c)))) (λ i. one_same _))

  regex_one : (cs : List ℕ) (at : ℕ) → One (regex_literal Old ('r ∷ l) o cs at) (regex_literal Kept ('r ∷ l) o cs at)
  unfolding regex_literal
  regex_one cs at = go (seek Hashes cs at)
    where
      go : (f : Found) → One (regex_literal_by Old ('r ∷ l) o cs f) (regex_literal_by Kept ('r ∷ l) o cs f)
      go (Ok (p, m)) = one_more m _ _ (hashed-one m (drop m cs) p)
      go (Err (p, m)) = one_same _

  r_one : (cs : List ℕ) (at : ℕ) → One (r_word Old ('r ∷ l) o cs at) (r_word Kept ('r ∷ l) o cs at)
  unfolding r_word if_next
  r_one [] at = identifier_one ('r ∷ l) o [] at (r_word_lem l o [] at)
  r_one (c ∷ cs) at =
      one-test (eqb c '#) _ _ _ _ (λ p. regex_one (c ∷ cs) at)
      (λ p. one-test (eqb c 'dquote) _ _ _ _ (λ q. regex_one (c ∷ cs) at) (λ q. identifier_one ('r ∷ l) o (c ∷ cs) at (r_word_lem l o (c ∷ cs) at)))

-- ---- an attribute
nothing_dropped : (cs : List ℕ) → some cs ≡ false → dropped Old cs ≡ dropped Kept cs
unfolding some dropped
nothing_dropped [] e = refl
nothing_dropped (c ∷ cs) e = no e

hash-one : (o : ℕ) (cs : List ℕ) (at : ℕ) → followed cs (attempt cs at) ≡ false → One (hash Old o cs at) (hash Kept o cs at)
unfolding hash attribute_token
hash-one o cs at e = go (attempt cs at) e
  where
    go : (x : Attempt) → followed cs x ≡ false → One (hash_by Old o cs at x) (hash_by Kept o cs at x)
    go (Ok (p, m)) e = record { is = rw (nothing_dropped (drop m cs) e) }
    go (Err (p, m)) e = one_same _

-- ---- the dispatch
module _ (c : ℕ) (cs : List ℕ) (o at : ℕ) (e : token_meets c cs o at ≡ false) where
  equals_here : eqb c '= ≡ true → equals_meets cs at ≡ false
  unfolding token_meets
  equals_here q = let h = eqb-true c '= q in rw h at e

  word_here : eqb c '# ≡ false → eqb c '= ≡ false → is_identifier_start c ≡ true → word_meets (c ∷ cs) o cs at ≡ false
  unfolding token_meets
  word_here p q i = rw (p, q, i) at e

  hash_here : eqb c '# ≡ true → followed cs (attempt cs at) ≡ false
  unfolding token_meets
  hash_here q = rw q at e

  r_here : eqb c 'r ≡ true → One (more 1 (r_word Old (c ∷ cs) o cs at)) (more 1 (r_word Kept (c ∷ cs) o cs at))
  r_here q = let h = eqb-true c 'r q in rw h (one_more 1 _ _ (r_one cs o cs at))

  equals-there : eqb c '= ≡ true → One (more 1 (equals Old o cs at)) (more 1 (equals Kept o cs at))
  equals-there q = one_more 1 _ _ (equals-one o cs at (equals_here q))

  word_there : eqb c '# ≡ false → eqb c '= ≡ false → is_identifier_start c ≡ true → One (more 1 (identifierish Old (c ∷ cs) o cs at)) (more 1 (identifierish Kept (c ∷ cs) o cs at))
  word_there p q i = one_more 1 _ _ (identifier_one (c ∷ cs) o cs at (word_here p q i))

  starts-one : eqb c '# ≡ false → One (starts Old c cs o at) (starts Kept c cs o at)
  unfolding starts
  starts-one n = search (one-test, one_same, equals-there, r_here, word_there) depth 30

  single-one : (ks : List (ℕ × Kind)) (x y : Call) → One x y → One (single ks c o at x) (single ks c o at y)
  unfolding single
  single-one [] x y h = h
  single-one (k ∷ ks) x y h = one-test (eqb c k.0) _ _ _ _ (λ _. one_same _) (λ _. single-one ks x y h)

  token-one : One (token Old c cs o at) (token Kept c cs o at)
  unfolding token
  token-one = one-test (eqb c '#) _ _ _ _ (λ q. one_more 1 _ _ (hash-one o cs at (hash_here q))) (λ n. single-one singles _ _ (starts-one n))

first_one : (cs : List ℕ) (o : ℕ) → first_meets cs o ≡ false → One (token_or_end Old cs o) (token_or_end Kept cs o)
unfolding first_meets token_or_end
first_one [] o e = one_same _
first_one (c ∷ cs) o e = token-one c cs o (o + width_of c) e

-- THE LAW
pub one-call : (cs : List ℕ) (at : ℕ) → meets cs at ≡ false → next Old cs at ≡ next Kept cs at
unfolding meets next
one-call cs at e = go (gap cs at) e
  where
    go : (x : Skip) → meets_by cs x ≡ false → next_by Old cs x (gap_depth_of cs at) ≡ next_by Kept cs x (gap_depth_of cs at)
    go (Ok (p, m)) e = ap (told (gap_depth_of cs at)) (ap (more m) (first_one (drop m cs) p e).is)
    go (Err (r, p, m)) e = refl
