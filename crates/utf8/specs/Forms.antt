-- The four forms of a character (UTF8-1 to UTF8-4 of RFC 3629), each written and read: what the laws rest on.
use Rattle.std.specs.Prelude.{ℕ, zero, suc, ◌+◌, ◌-◌, ◌*◌, ◌/◌, ◌≤◌, ◌<◌, Bool, cond, List, [], ◌∷◌, ltb, eqb, length, get_or, Some}
use Rattle.std.proofs.Common.{suc-le-suc, eqb-true}
use Rattle.std.proofs.Math.Path.{◌≡◌, refl}
use Rattle.std.proofs.Math.Bool.{true, false}
use Rattle.std.proofs.Math.Nat.{div-div-eq-div-mul}
use native.Mathlib.Omega.{arith}
use Rattle.utf8.specs.Utf8.{low, high, code2, code3, code4, lead, width_of}
use Rattle.utf8.specs.Encode.{tail, encode}
use Rattle.utf8.specs.Picks.{picks, by_test, tests}
use Rattle.std.proofs.lemmas.Bool.{eqb-false}

-- a first byte below 128 is the character
pub lead_ascii : (l h a b c d : ℕ) → a < 0x80 → Some (a, 1) ≡ lead l h a b c d
unfolding lead
lead_ascii l h a b c d q = search picks

-- a number that is not 0 stands within the list
pub within : (s : List ℕ) (i : ℕ) → 0 < get_or s i 0 → i < length s
within [] i h = absurd (omega arith)
within (x ∷ s) zero h = omega arith
within (x ∷ s) (suc i) h = suc-le-suc (within s i h)

pub width_1 : (k : ℕ) → k < 0x80 → 1 ≡ width_of k
unfolding width_of
width_1 k h = search picks

pub width_2 : (k : ℕ) → 0x80 ≤ k → k < 0x800 → 2 ≡ width_of k
unfolding width_of
width_2 k g h = search picks

pub width_3 : (k : ℕ) → 0x80 ≤ k → 0x800 ≤ k → k < 0x10000 → 3 ≡ width_of k
unfolding width_of
width_3 k f g h = search picks

pub width_4 : (k : ℕ) → 0x80 ≤ k → 0x800 ≤ k → 0x10000 ≤ k → 4 ≡ width_of k
unfolding width_of
width_4 k f g h = search picks

module _ (a : ℕ) (P : ℕ → Type 0) where
  low_by : (a ≡ 0xE0 → P 0xA0) → (a ≡ 0xF0 → P 0x90) → ((a ≡ 0xE0 → ⊥) → (a ≡ 0xF0 → ⊥) → P 0x80) → P (low a)
  unfolding low
  low_by f g h =
      by_test P (eqb a 0xE0) 0xA0 (cond (eqb a 0xF0) 0x90 0x80) (λ t. f (eqb-true _ _ t))
      (λ t. by_test P (eqb a 0xF0) 0x90 0x80 (λ u. g (eqb-true _ _ u)) (λ u. h (eqb-false _ _ t) (eqb-false _ _ u)))

  high_by : (a ≡ 0xED → P 0x9F) → (a ≡ 0xF4 → P 0x8F) → ((a ≡ 0xED → ⊥) → (a ≡ 0xF4 → ⊥) → P 0xBF) → P (high a)
  unfolding high
  high_by f g h =
      by_test P (eqb a 0xED) 0x9F (cond (eqb a 0xF4) 0x8F 0xBF) (λ t. f (eqb-true _ _ t))
      (λ t. by_test P (eqb a 0xF4) 0x8F 0xBF (λ u. g (eqb-true _ _ u)) (λ u. h (eqb-false _ _ t) (eqb-false _ _ u)))

pub low_least : (a : ℕ) → 0x80 ≤ low a
low_least a = low_by a (λ (l : ℕ). 0x80 ≤ l) (λ h. omega arith) (λ h. omega arith) (λ h g. omega arith)

pub low_3 : (a : ℕ) → 0xE0 ≤ a → 0xA0 ≤ low a + (a - 0xE0) * 32
low_3 a q = low_by a (λ (l : ℕ). 0xA0 ≤ l + (a - 0xE0) * 32) (λ h. omega arith) (λ h. omega arith) (λ h g. omega arith)

pub low_4 : (a : ℕ) → 0xF0 ≤ a → 0x90 ≤ low a + (a - 0xF0) * 16
low_4 a q = low_by a (λ (l : ℕ). 0x90 ≤ l + (a - 0xF0) * 16) (λ h. omega arith) (λ h. omega arith) (λ h g. omega arith)

pub high-most : (a : ℕ) → high a ≤ 0xBF
high-most a = high_by a (λ (l : ℕ). l ≤ 0xBF) (λ h. omega arith) (λ h. omega arith) (λ h g. omega arith)

pub high_3 : (a : ℕ) → a ≤ 0xED → a * 64 + high a ≤ 0xED * 64 + 0x9F
high_3 a q = high_by a (λ (l : ℕ). a * 64 + l ≤ 0xED * 64 + 0x9F) (λ h. omega arith) (λ h. omega arith) (λ h g. omega arith)

pub high_4 : (a : ℕ) → a ≤ 0xF4 → a * 64 + high a ≤ 0xF4 * 64 + 0x8F
high_4 a q = high_by a (λ (l : ℕ). a * 64 + l ≤ 0xF4 * 64 + 0x8F) (λ h. omega arith) (λ h. omega arith) (λ h g. omega arith)

-- the bytes of a code point, by its width
pub encode_1 : (c : ℕ) → c < 0x80 → c ∷ [] ≡ encode c
unfolding encode
encode_1 c h = search picks

pub encode_2 : (c : ℕ) → 0x80 ≤ c → c < 0x800 → (0xC0 + c / 64) ∷ tail c ∷ [] ≡ encode c
unfolding encode
encode_2 c g h = search picks

pub encode_3 : (c : ℕ) → 0x80 ≤ c → 0x800 ≤ c → c < 0x10000 → (0xE0 + c / 4096) ∷ tail (c / 64) ∷ tail c ∷ [] ≡ encode c
unfolding encode
encode_3 c f g h = search picks

pub encode_4 : (c : ℕ) → 0x80 ≤ c → 0x800 ≤ c → 0x10000 ≤ c
    → (0xF0 + c / 262144) ∷ tail (c / 4096) ∷ tail (c / 64) ∷ tail c ∷ [] ≡ encode c
unfolding encode
encode_4 c f g h = search picks

-- back from the code points
pub back_2 : (a b : ℕ) → 0xC0 ≤ a → 0x80 ≤ b → b ≤ 0xBF → (0xC0 + code2 a b / 64 ≡ a) × (tail (code2 a b) ≡ b)
back_2 a b p q r = (omega arith, omega arith)

pub back_3 : (a b c : ℕ) → 0xE0 ≤ a → 0x80 ≤ b → b ≤ 0xBF → 0x80 ≤ c → c ≤ 0xBF
    → (0xE0 + code3 a b c / 4096 ≡ a) × (tail (code3 a b c / 64) ≡ b) × (tail (code3 a b c) ≡ c)
back_3 a b c p q r s t = (omega arith, omega arith, omega arith)

pub back_4 : (a b c d : ℕ) → 0xF0 ≤ a → 0x80 ≤ b → b ≤ 0xBF → 0x80 ≤ c → c ≤ 0xBF → 0x80 ≤ d → d ≤ 0xBF
    → (0xF0 + code4 a b c d / 262144 ≡ a) × (tail (code4 a b c d / 4096) ≡ b) × (tail (code4 a b c d / 64) ≡ c) × (tail (code4 a b c d) ≡ d)
back_4 a b c d p q r s t u v = (omega arith, omega arith, omega arith, omega arith)

-- and the code points from the bytes
pub there_2 : (c : ℕ) → c ≡ code2 (0xC0 + c / 64) (tail c)
there_2 c = omega arith

pub there_3 : (c : ℕ) → c ≡ code3 (0xE0 + c / 4096) (tail (c / 64)) (tail c)
there_3 c = omega arith

pub there_4 : (c : ℕ) → c ≡ code4 (0xF0 + c / 262144) (tail (c / 4096)) (tail (c / 64)) (tail c)
there_4 c = omega (arith, div-div-eq-div-mul c 64 64, div-div-eq-div-mul c 4096 64)

-- a code point's width, case by case
module _ (c : ℕ) (P : Type 0) where
  -- four widths
  pub width_by : (c < 0x80 → P) → (0x80 ≤ c → c < 0x800 → P) → (0x800 ≤ c → c < 0x10000 → P) → (0x10000 ≤ c → P) → P
  width_by f g h k = go (ltb c 0x80) (ltb c 0x800) (ltb c 0x10000) refl refl refl
    where
      go : (x y z : Bool) → ltb c 0x80 ≡ x → ltb c 0x800 ≡ y → ltb c 0x10000 ≡ z → P
      go true y z p q r = f (omega tests)
      go false true z p q r = g (omega tests) (omega tests)
      go false false true p q r = h (omega tests) (omega tests)
      go false false false p q r = k (omega tests)

-- WRITTEN, THEN READ
pub low_fits : (a b : ℕ) → 0x80 ≤ b → (a ≡ 0xE0 → 0xA0 ≤ b) → (a ≡ 0xF0 → 0x90 ≤ b) → low a ≤ b
low_fits a b h f g = low_by a (λ (l : ℕ). l ≤ b) f g (λ p q. h)

pub high_fits : (a b : ℕ) → b ≤ 0xBF → (a ≡ 0xED → b ≤ 0x9F) → (a ≡ 0xF4 → b ≤ 0x8F) → b ≤ high a
high_fits a b h f g = high_by a (λ (l : ℕ). b ≤ l) f g (λ p q. h)

module _ (l h a b c d k : ℕ) (fits : l ≤ b) (ends : b ≤ h) where
  pub lead_2 : 0xC2 ≤ a → a < 0xE0 → k ≡ code2 a b → Some (k, 2) ≡ lead l h a b c d
  unfolding lead
  lead_2 p q e = let g : 0x80 ≤ a = omega arith in rw e (search picks depth 14)

  module _ (c1 : 0x80 ≤ c) (c2 : c ≤ 0xBF) where
    pub lead_3 : 0xE0 ≤ a → a < 0xF0 → k ≡ code3 a b c → Some (k, 3) ≡ lead l h a b c d
    unfolding lead
    lead_3 p q e =
        let f : 0x80 ≤ a = omega arith in
        let g : 0xC2 ≤ a = omega arith in
        rw e (search picks depth 14)

    pub lead_4 : 0xF0 ≤ a → a < 0xF5 → 0x80 ≤ d → d ≤ 0xBF → k ≡ code4 a b c d → Some (k, 4) ≡ lead l h a b c d
    unfolding lead
    lead_4 p q d1 d2 e =
        let e1 : 0x80 ≤ a = omega arith in
        let f : 0xC2 ≤ a = omega arith in
        let g : 0xE0 ≤ a = omega arith in
        rw e (search picks depth 14)

pub written-width : (c : ℕ) → length (encode c) ≡ width_of c
written-width c =
    width_by c (length (encode c) ≡ width_of c)
    (λ h. rw (← (encode_1 c h), ← (width_1 c h)))
    (λ g h. rw (← (encode_2 c g h), ← (width_2 c g h)))
    (λ g h.
    let f : 0x80 ≤ c = omega arith in
    rw (← (encode_3 c f g h), ← (width_3 c f g h)))
    (λ h.
    let f : 0x80 ≤ c = omega arith in
    let g : 0x800 ≤ c = omega arith in
    rw (← (encode_4 c f g h), ← (width_4 c f g h)))

-- what a sight of a character says of the bytes after its first one (proofs/Forms.antt has the rest)
pub record Tail (b : ℕ) : Type 0 where
  pub least : 0x80 ≤ b
  pub most : b ≤ 0xBF

-- the tails of at most four bytes, one by one
pub tails_of : (a : ℕ) (s : List ℕ) (w : ℕ) → w ≤ 4 → (1 < w → Tail (get_or s 0 0)) → (2 < w → Tail (get_or s 1 0)) → (3 < w → Tail (get_or s 2 0))
    → (i : ℕ) → 0 < i → i < w → Tail (get_or (a ∷ s) i 0)
tails_of a s w m f g h zero p q = absurd (omega arith)
tails_of a s w m f g h (suc zero) p q = f q
tails_of a s w m f g h (suc (suc zero)) p q = g q
tails_of a s w m f g h (suc (suc (suc zero))) p q = h q
tails_of a s w m f g h (suc (suc (suc (suc i)))) p q = absurd (omega arith)
