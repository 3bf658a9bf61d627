-- Words by their bytes: a word of letters below 128 has as many bytes as letters, and is spelt by them.
use Rattle.std.specs.Prelude.{suc, drop, take, bytes_eq, slice_range, ◌+◌, ◌-◌, ◌<◌, ◌≤◌, ℕ, Bool, ◌&&◌, cond, false, true, List, [], ◌∷◌, ◌≡◌, eqb, ltb, get_or, length, Option, Some, None}
use Rattle.std.proofs.Common.{drop-cons, arith, ◌∙◌, ap, sym, eq-eqb, eqb-true, lt-ltb, ltb-false, ltb-true, ne_eqb}
use Rattle.std.proofs.Math.Path.{refl}
use Rattle.std.proofs.lemmas.Bool.{eqb-false}
use Rattle.utf8.proofs.Laws.{seen}
use Rattle.utf8.specs.Laws.{ended, sight_ascii, sight_in}
use Rattle.utf8.specs.Picks.{by_test}
use Rattle.utf8.specs.Utf8.{lead, sight_at, width_of}
use Rattle.record.specs.declared.Kind.{Kind}
use Rattle.record.specs.declared.Kind.TheVariants.{Underscore}
use Rattle.record.specs.declared.Reading.{Reading}
use Rattle.scan.specs.Until.{left}
use Rattle.reading.specs.Answers.{plain}
use Rattle.reading.specs.Steps.{spells-end, spells-on}
use Rattle.reading.specs.Words.{hashed_underscore, id_token, keyword_token, keywords, spells, underscore, use_token, use_word, word_token}

both : (x y : Bool) → (x && y) ≡ true → (x ≡ true) × (y ≡ true)
both true y h = (refl, h)
both false y h = (h, cc)

and-true : (x : Bool) → (x && true) ≡ x
and-true true = refl
and-true false = refl

width_one : (k : ℕ) → k < 0x80 → width_of k ≡ 1
unfolding width_of
width_one k h = rw (lt-ltb k 0x80 h)

-- a first byte from 128 on starts a character of two bytes or more, or none
abbrev WideIn : Option (ℕ × ℕ) → Type 0
WideIn (Some (k, w)) = 1 < w
WideIn None = Unit {0}

record Wide (x : Option (ℕ × ℕ)) : Type 0 where
  is : WideIn x

wide_test : (t : Bool) (x y : Option (ℕ × ℕ)) → Wide x → Wide y → Wide (cond t x y)
wide_test true x y p q = p
wide_test false x y p q = q

wide-end : Wide None
wide-end = record { is = tt }

wide_2 : (k : ℕ) → Wide (Some (k, 2))
wide_2 k = record { is = omega arith }

wide_3 : (k : ℕ) → Wide (Some (k, 3))
wide_3 k = record { is = omega arith }

wide_4 : (k : ℕ) → Wide (Some (k, 4))
wide_4 k = record { is = omega arith }

lead-wide : (l h a b c d : ℕ) → 0x80 ≤ a → Wide (lead l h a b c d)
unfolding lead
lead-wide l h a b c d q =
    by_test Wide (ltb a 0x80) (Some (a, 1)) _ (λ t. absurd (omega (arith, ltb-true a 0x80 t))) (λ t. search (wide_test, wide-end, wide_2, wide_3, wide_4) depth 14)

wide_at : (s : List ℕ) (at : ℕ) → at < length s → 0x80 ≤ get_or s at 0 → Wide (sight_at s at)
wide_at s at l q = rw (sight_in s at l) (lead-wide _ _ _ _ _ _ q)

-- a letter and its byte
pub spells_byte : (k : ℕ) (ks s : List ℕ) (at p : ℕ) → at < length s → k < 0x80
    → spells (k ∷ ks) (left s at) at p ≡ eqb (get_or s at 0) k && spells ks (left s (at + 1)) (at + 1) p
spells_byte k ks s at p l a = go (ltb (get_or s at 0) 0x80) refl
  where
    other : 0x80 ≤ get_or s at 0 → (x : Option (ℕ × ℕ)) → sight_at s at ≡ x → spells (k ∷ ks) (left s at) at p ≡ false
    other q (Some (c, w)) e =
        let h = seen s at c w e in
        let v : Wide (Some (c, w)) = rw e at (wide_at s at l q) in
        let i : 1 < w = v.is in
        spells-on k ks p h ∙ rw (ne_eqb c k (λ z. omega (arith, h.width, width_one c (omega arith))))
    other q None e = spells-end k ks p (ended s at e)

    go : (t : Bool) → ltb (get_or s at 0) 0x80 ≡ t → spells (k ∷ ks) (left s at) at p ≡ eqb (get_or s at 0) k && spells ks (left s (at + 1)) (at + 1) p
    go true t = spells-on k ks p (seen s at (get_or s at 0) 1 (sym (sight_ascii s at l (ltb-true _ _ t))))
    go false t =
        let q : 0x80 ≤ get_or s at 0 = ltb-false _ _ t in
        other q (sight_at s at) refl ∙ rw (ne_eqb (get_or s at 0) k (λ z. omega arith))

pub spells-last : (k : ℕ) (s : List ℕ) (at p : ℕ) → at < length s → k < 0x80 → p ≡ at + 1 → eqb (get_or s at 0) k ≡ spells (k ∷ []) (left s at) at p
unfolding spells
spells-last k s at p l a e =
    sym (spells_byte k [] s at p l a ∙ ap (λ (d : Bool). eqb (get_or s at 0) k && d) (eq-eqb (at + 1) p (sym e)) ∙ and-true (eqb (get_or s at 0) k))

-- a word has as many bytes as letters
abbrev pub letters : List ℕ → Bool
letters [] = true
letters (k ∷ ks) = ltb k 0x80 && letters ks

spells-length : (ks : List ℕ) → letters ks ≡ true → (cs : List ℕ) (at p : ℕ) → spells ks cs at p ≡ true → p ≡ at + length ks
unfolding spells
spells-length [] l cs at p e = omega (arith, eqb-true at p e)
spells-length (k ∷ ks) l [] at p e = let z : ◌≡◌ {A = ℕ} 0 1 = cc in absurd (omega arith)
spells-length (k ∷ ks) l (c ∷ cs) at p e =
    let b = both (eqb c k) (spells ks cs (at + width_of c) p) e in
    let a = both (ltb k 0x80) (letters ks) l in
    let q : c ≡ k = eqb-true c k b.0 in
    let w : width_of c ≡ 1 = width_one c (omega (arith, ltb-true k 0x80 a.0)) in
    let r = spells-length ks a.1 cs (at + width_of c) p b.1 in
    omega arith

spells-not : (ks : List ℕ) → letters ks ≡ true → (cs : List ℕ) (at p : ℕ) → (p ≡ at + length ks → ⊥) → spells ks cs at p ≡ false
spells-not ks l cs at p n = go (spells ks cs at p) refl
  where
    go : (t : Bool) → spells ks cs at p ≡ t → spells ks cs at p ≡ false
    go true q = absurd (n (spells-length ks l cs at p q))
    go false q = q

range-on : (s : List ℕ) (at p : ℕ) → at < p → p ≤ length s → slice_range s at p ≡ get_or s at 0 ∷ slice_range s (at + 1) p
range-on s at p h r =
    let q : p - at ≡ suc (p - (at + 1)) = omega arith in
    let u : suc at ≡ at + 1 = omega arith in
    rw (drop-cons s at 0 (omega arith), q, take, u)

-- a word's letters are its bytes
pub spells_bytes : (ks s : List ℕ) (at p : ℕ) → letters ks ≡ true → at ≤ p → p ≤ length s → bytes_eq (slice_range s at p) ks ≡ spells ks (left s at) at p
unfolding spells
spells_bytes [] s at p l h r = go (eqb at p) refl
  where
    go : (t : Bool) → eqb at p ≡ t → bytes_eq (slice_range s at p) [] ≡ eqb at p
    go true t = let q : p - at ≡ 0 = omega (arith, eqb-true at p t) in rw (q, t)
    go false t = let n : at ≡ p → ⊥ = eqb-false at p t in rw (range-on s at p (omega arith) r, t)
spells_bytes (k ∷ ks) s at p l h r = go (eqb at p) refl (λ a i. spells_bytes ks s (at + 1) p a (omega (arith, i)) r)
  where
    go : (t : Bool) → eqb at p ≡ t
        → (letters ks ≡ true → at < p → bytes_eq (slice_range s (at + 1) p) ks ≡ spells ks (left s (at + 1)) (at + 1) p)
        → bytes_eq (slice_range s at p) (k ∷ ks) ≡ spells (k ∷ ks) (left s at) at p
    go true t f =
        let q : p - at ≡ 0 = omega (arith, eqb-true at p t) in
        rw q (sym (spells-not (k ∷ ks) l (left s at) at p (λ z. omega (arith, eqb-true at p t))))
    go false t f =
        let n : at ≡ p → ⊥ = eqb-false at p t in
        let i : at < p = omega arith in
        let a = both (ltb k 0x80) (letters ks) l in
        rw (range-on s at p i r)
        (ap (λ (d : Bool). eqb (get_or s at 0) k && d) (f a.1 i)
        ∙ sym (spells_byte k ks s at p (omega arith) (ltb-true k 0x80 a.0)))

-- a word stands in the text
spells-step : (k : ℕ) (ks s : List ℕ) (at p : ℕ) → spells (k ∷ ks) (left s at) at p ≡ true → (w : ℕ) × (at + w ≤ length s) × (spells ks (left s (at + w)) (at + w) p ≡ true)
spells-step k ks s at p e = go (sight_at s at) refl
  where
    go : (x : Option (ℕ × ℕ)) → sight_at s at ≡ x → (w : ℕ) × (at + w ≤ length s) × (spells ks (left s (at + w)) (at + w) p ≡ true)
    go (Some (c, w)) q =
        let h = seen s at c w q in
        (w, h.room, (both (eqb c k) (spells ks (left s (at + w)) (at + w) p) (sym (spells-on k ks p h) ∙ e)).1)
    go None q = let u : false ≡ true = sym (spells-end k ks p (ended s at q)) ∙ e in let z : ◌≡◌ {A = ℕ} 0 1 = cc in absurd (omega arith)

spells_past : (k : ℕ) (ks s : List ℕ) (at p : ℕ) → spells (k ∷ ks) (left s at) at p ≡ true → p ≤ length s
unfolding spells
spells_past k [] s at p e = let (w, r, q) = spells-step k [] s at p e in omega (arith, eqb-true (at + w) p q)
spells_past k (j ∷ ks) s at p e = let (w, r, q) = spells-step k (j ∷ ks) s at p e in spells_past j ks s (at + w) p q

spells_out : (ks s : List ℕ) → 0 < length ks → (at p : ℕ) → length s < p → spells ks (left s at) at p ≡ false
spells_out [] s n at p h = absurd (omega arith)
spells_out (k ∷ ks) s n at p h = go (spells (k ∷ ks) (left s at) at p) refl
  where
    go : (t : Bool) → spells (k ∷ ks) (left s at) at p ≡ t → spells (k ∷ ks) (left s at) at p ≡ false
    go true q = absurd (omega (arith, spells_past k ks s at p q))
    go false q = q

-- of the words in a table only those as long as the word can be it
unfoldable pub long_as : ℕ → List (List ℕ × Kind) → List (List ℕ × Kind)
long_as n [] = []
long_as n (k ∷ ks) = cond (eqb n (length k.0)) (k ∷ long_as n ks) (long_as n ks)

-- a table of such words, none of them empty
abbrev all_letters : List (List ℕ × Kind) → Bool
all_letters [] = true
all_letters (k ∷ ks) = (letters k.0 && ltb 0 (length k.0)) && all_letters ks

module _ (k : List ℕ × Kind) (ks : List (List ℕ × Kind)) (l : all_letters (k ∷ ks) ≡ true) where
  first : letters k.0 ≡ true
  first = (both (letters k.0) (ltb 0 (length k.0)) (both (letters k.0 && ltb 0 (length k.0)) (all_letters ks) l).0).0

  some : 0 < length k.0
  some = ltb-true _ _ (both (letters k.0) (ltb 0 (length k.0)) (both (letters k.0 && ltb 0 (length k.0)) (all_letters ks) l).0).1

  others : all_letters ks ≡ true
  others = (both (letters k.0 && ltb 0 (length k.0)) (all_letters ks) l).1

keyword_long : (ks : List (List ℕ × Kind)) → all_letters ks ≡ true → (cs : List ℕ) (o : ℕ) (rest : List ℕ) (p : ℕ)
    → keyword_token ks cs o rest p ≡ keyword_token (long_as (p - o) ks) cs o rest p
unfolding keyword_token long_as
keyword_long [] l cs o rest p = refl
keyword_long (k ∷ ks) l cs o rest p = go (eqb (p - o) (length k.0)) refl (keyword_long ks (others k ks l) cs o rest p)
  where
    go : (t : Bool) → eqb (p - o) (length k.0) ≡ t → keyword_token ks cs o rest p ≡ keyword_token (long_as (p - o) ks) cs o rest p
        → keyword_token (k ∷ ks) cs o rest p ≡ keyword_token (long_as (p - o) (k ∷ ks)) cs o rest p
    go true q h = rw q (ap (cond (spells k.0 cs o p) (plain k.1 o p 0)) h)
    go false q h = rw (q, spells-not k.0 (first k ks l) cs o p (λ z. omega (arith, eqb-false (p - o) (length k.0) q))) h

keyword_out : (ks : List (List ℕ × Kind)) → all_letters ks ≡ true → (s : List ℕ) (o : ℕ) (rest : List ℕ) (p : ℕ) → length s < p
    → keyword_token ks (left s o) o rest p ≡ id_token o rest p
unfolding keyword_token
keyword_out [] l s o rest p h = refl
keyword_out (k ∷ ks) l s o rest p h = rw (spells_out k.0 s (some k ks l) o p h) (keyword_out ks (others k ks l) s o rest p h)

all_keywords : all_letters keywords ≡ true
unfolding keywords
all_keywords = refl

long_none : (n : ℕ) → (n ≡ 2 → ⊥) → (n ≡ 3 → ⊥) → (n ≡ 4 → ⊥) → (n ≡ 5 → ⊥) → (n ≡ 6 → ⊥) → (n ≡ 7 → ⊥) → long_as n keywords ≡ []
unfolding long_as keywords
long_none n h2 h3 h4 h5 h6 h7 = simp (ne_eqb n 2 h2, ne_eqb n 3 h3, ne_eqb n 4 h4, ne_eqb n 5 h5, ne_eqb n 6 h6, ne_eqb n 7 h7)

-- a word by its length n, in every reading
module _ (rd : Reading) (s : List ℕ) (o p : ℕ) where
  not_1 : (p ≡ o + 1 → ⊥) → spells underscore (left s o) o p ≡ false
  not_1 h = spells-not underscore refl (left s o) o p h

  not-hashed : (p ≡ o + 3 → ⊥) → spells hashed_underscore (left s o) o p ≡ false
  not-hashed h = spells-not hashed_underscore refl (left s o) o p h

  not_use : (p ≡ o + 3 → ⊥) → spells use_word (left s o) o p ≡ false
  not_use h = spells-not use_word refl (left s o) o p h

  long : (n : ℕ) → p - o ≡ n → keyword_token keywords (left s o) o (left s p) p ≡ keyword_token (long_as n keywords) (left s o) o (left s p) p
  long n q = rw q at (keyword_long keywords all_keywords (left s o) o (left s p) p)

  neither : (n : ℕ) → p - o ≡ n → (p ≡ o + 1 → ⊥) → (p ≡ o + 3 → ⊥) → word_token rd (left s o) o (left s p) p ≡ keyword_token (long_as n keywords) (left s o) o (left s p) p
  unfolding word_token
  neither n q h1 h3 = rw (not_1 h1, not-hashed h3, not_use h3) (long n q)

  pub word_long : (n : ℕ) → p ≡ o + n → eqb n 1 ≡ false → eqb n 3 ≡ false → word_token rd (left s o) o (left s p) p ≡ keyword_token (long_as n keywords) (left s o) o (left s p) p
  word_long n e h1 h3 = neither n (omega arith) (λ z. omega (arith, eqb-false n 1 h1)) (λ z. omega (arith, eqb-false n 3 h3))

  pub word_1 : p ≡ o + 1 → word_token rd (left s o) o (left s p) p ≡ cond (spells underscore (left s o) o p) (plain Underscore o p 0) (id_token o (left s p) p)
  unfolding word_token keyword_token long_as keywords
  word_1 e = rw (not-hashed (λ z. omega arith), not_use (λ z. omega arith), long 1 (omega arith))

  pub word_3 : p ≡ o + 3
      → word_token rd (left s o) o (left s p) p
      ≡ cond (spells hashed_underscore (left s o) o p) (plain Underscore o p 0)
      (cond (spells use_word (left s o) o p) (use_token rd o (left s p) p) (keyword_token (long_as 3 keywords) (left s o) o (left s p) p))
  unfolding word_token
  word_3 e = rw (not_1 (λ z. omega arith), long 3 (omega arith))

  less : (n : ℕ) → p ≡ o + n → p - o ≡ n
  less n e = omega arith

  -- no keyword has another length, or ends before it starts, or beyond the text
  pub word_none : (p - o ≡ 1 → ⊥) → (p - o ≡ 2 → ⊥) → (p - o ≡ 3 → ⊥) → (p - o ≡ 4 → ⊥) → (p - o ≡ 5 → ⊥) → (p - o ≡ 6 → ⊥) → (p - o ≡ 7 → ⊥)
      → word_token rd (left s o) o (left s p) p ≡ id_token o (left s p) p
  unfolding keyword_token
  word_none h1 h2 h3 h4 h5 h6 h7 = neither (p - o) refl (λ z. h1 (less 1 z)) (λ z. h3 (less 3 z)) ∙ rw (long_none (p - o) h2 h3 h4 h5 h6 h7)

  pub word_before : p < o → word_token rd (left s o) o (left s p) p ≡ id_token o (left s p) p
  unfolding keyword_token long_as keywords
  word_before h = neither 0 (omega arith) (λ z. omega arith) (λ z. omega arith)

  pub word_out : length s < p → word_token rd (left s o) o (left s p) p ≡ id_token o (left s p) p
  unfolding word_token
  word_out h =
      rw (spells_out underscore s (omega arith) o p h, spells_out hashed_underscore s (omega arith) o p h, spells_out use_word s (omega arith) o p h)
      (keyword_out keywords all_keywords s o (left s p) p h)
