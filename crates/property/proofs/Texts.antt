-- The library's words for a text's front, and ours.
use Rattle.std.specs.Prelude.{ℕ, ◌≡◌, refl, Bool, true, false, cond, ◌&&◌, List, [], ◌∷◌, eqb, length, take, drop}
use Rattle.std.proofs.Common.{sym, eqb-true, eq-eqb, ne_eqb}
use Rattle.std.proofs.lemmas.Bool.{eqb-false}
use Rattle.std.specs.Cmp.Lexicographic.{pointwise}
use Rattle.utf8.specs.Chars.{'semi}
use Rattle.property.specs.declared.line.Line.TheVariants.{Damaged}
use Rattle.property.specs.Lines.{starts_with, past_spaces, known_of, semi_of}

-- `strip_prefix`: a text starts with a word where the two are one byte by byte
pub stripped : (word s : List ℕ) → pointwise eqb (take (length word) s) word ≡ starts_with word s
unfolding starts_with
stripped [] s = refl
stripped (a ∷ word) [] = refl
stripped (a ∷ word) (b ∷ s) = rw (stripped word s) (go (eqb b a) (starts_with word s))
  where
    go : (t u : Bool) → (t && u) ≡ elim t as (λ _. Bool) [ true ↦ u | false ↦ false ]
    go true u = refl
    go false u = refl

-- `starts_with`, which names the word first
pub started : (word s : List ℕ) → pointwise eqb word (take (length word) s) ≡ starts_with word s
unfolding starts_with
started [] s = refl
started (a ∷ word) [] = refl
started (a ∷ word) (b ∷ s) = rw (started word s) (go (eqb b a) refl (starts_with word s))
  where
    go : (t : Bool) → eqb b a ≡ t → (u : Bool) → (eqb a b && u) ≡ elim t as (λ _. Bool) [ true ↦ u | false ↦ false ]
    go true q u = rw (eq-eqb a b (sym (eqb-true b a q)))
    go false q u = rw (ne_eqb a b (λ e. eqb-false b a q (sym e)))

-- `;` at the front, or not
pub semi_other : (s : List ℕ) (first last : ℕ) → pointwise eqb (take 1 s) ('semi ∷ []) ≡ false → Damaged ≡ semi_of s first last
unfolding semi_of
semi_other [] first last e = refl
semi_other (b ∷ s) first last e = go (eqb b 'semi) e
  where
    go : (t : Bool) → (t && true) ≡ false → Damaged ≡ cond t (known_of (past_spaces s) first last) Damaged
    go true f = cc
    go false f = refl

pub semi_name : (s t : List ℕ) (first last : ℕ) → pointwise eqb (take 1 s) ('semi ∷ []) ≡ true → t ≡ drop 1 s
    → known_of (past_spaces t) first last ≡ semi_of s first last
unfolding semi_of
semi_name [] t first last e f = cc
semi_name (b ∷ s) t first last e f = rw f (go (eqb b 'semi) e)
  where
    go : (u : Bool) → (u && true) ≡ true → known_of (past_spaces s) first last ≡ cond u (known_of (past_spaces s) first last) Damaged
    go true f = refl
    go false f = cc
