-- The pure side of the stores: a number's bytes, a record's bytes and numbers, and records one after another.
use Rattle.std.proofs.Common.{ℕ, zero, suc, ◌+◌, ◌-◌, ◌*◌, ◌/◌, ◌%◌, ◌≤◌, ◌<◌, ◌≡◌, List, [], ◌∷◌, ◌++◌, map, length, take, drop, refl, sym, ap, ◌∙◌, arith, append_assoc, length-append, append-nil}
use Rattle.std.proofs.Math.ListN.{set, drop_of_length-le}
use Rattle.std.proofs.lemmas.List.{length-map}
use Rattle.std.proofs.lemmas.List.Edits.{sets, sets-eq, paste_all}
use Rattle.std.proofs.lemmas.Slice.{put_mid-paste}
use Rattle.std.specs.Int.{to_le_bytes, w64}
use borrow.Rule.Slice.PartMut.{put_mid}
use Rattle.record.specs.Stores.{sets_append, sets_over}
use Rattle.record.specs.declared.Token.{Token}
use Rattle.ltk.specs.declared.Entry.{Entry}
use Rattle.ltk.specs.Layout.{mark, version, version_place, count_place, record_place, little}
use Rattle.ltk.specs.Ltk.{numbers_in, group_size, record_bytes, header_bytes, flat, listed, token_in, entries_of, entry_at}
use Rattle.ltk.specs.Laws.{length-little, length_record, length-listed}

-- what a list holds after a store of the whole of a part of it
pub part_set : {A : Type 0} → (p k : ℕ) (xs ys zs : List A) → p + k ≤ length xs → k ≡ length zs → ys ≡ zs → put_mid p k xs ys ≡ sets xs p zs
part_set p k xs ys zs h l e =
    put_mid-paste p k xs ys zs (length zs) e (sym l) refl ∙ paste_all xs p zs (length zs) refl ∙ sym (append_assoc (take p xs) zs (drop (p + length zs) xs))
    ∙ sym (sets-eq zs xs p (omega arith))

-- ---- the bytes of a number
take_little : (k m n : ℕ) → k ≤ m → take k (little m n) ≡ little k n
unfolding little
take_little zero m n h = refl
take_little (suc k) zero n h = absurd (omega arith)
take_little (suc k) (suc m) n h = ap (λ (l : List ℕ). n % 256 ∷ l) (take_little k m (n / 256) (omega arith))

all_bytes : (n : ℕ) → to_le_bytes w64 n ≡ little 8 n
unfolding little
all_bytes n =
    let a : n / 65536 ≡ n / 256 / 256 = omega arith in
    let b : n / 16777216 ≡ n / 256 / 256 / 256 = omega arith in
    let c : n / 4294967296 ≡ n / 256 / 256 / 256 / 256 = omega arith in
    let d : n / 1099511627776 ≡ n / 256 / 256 / 256 / 256 / 256 = omega arith in
    let e : n / 281474976710656 ≡ n / 256 / 256 / 256 / 256 / 256 / 256 = omega arith in
    let f : n / 72057594037927936 ≡ n / 256 / 256 / 256 / 256 / 256 / 256 / 256 = omega arith in
    rw (a, b, c, d, e, f)

pub first_bytes : (k n : ℕ) → k ≤ 8 → take k (to_le_bytes w64 n) ≡ little k n
first_bytes k n h = ap (take k) (all_bytes n) ∙ take_little k 8 n h

-- ---- a record, and the header
pub record_laid : (o : List ℕ) (p : ℕ) (e : Entry) → sets (sets (sets o p (little 1 e.kind)) (p + 1) (little 4 e.start)) (p + 5) (little 4 e.end) ≡ sets o p (record_bytes e)
unfolding record_bytes
record_laid o p e =
    sym
    (sets_append (little 1 e.kind ++ little 4 e.start) (little 4 e.end) o p
    ∙ rw (sets_append (little 1 e.kind) (little 4 e.start) o p, length-append (little 1 e.kind) (little 4 e.start), length-little, length-little))

pub header_laid : (o : List ℕ) (n : ℕ) → sets (sets (sets o 0 mark) version_place (little 2 version)) count_place (little 4 n) ≡ sets o 0 (header_bytes n)
unfolding header_bytes little
header_laid o n = refl

pub group_laid : (o : List ℕ) (p : ℕ) (e : Entry)
    → set (set (set (set (set o p e.kind) (p + 1) e.start) (p + 2) e.end) (p + 3) e.start) (p + 4) e.start ≡ sets o p (numbers_in e)
group_laid o p e =
    let a : p + 1 ≡ suc p = omega arith in
    let b : p + 2 ≡ suc (suc p) = omega arith in
    let c : p + 3 ≡ suc (suc (suc p)) = omega arith in
    let d : p + 4 ≡ suc (suc (suc (suc p))) = omega arith in
    rw (a, b, c, d)

-- ---- records, each as numbers from a place of its own on: what is still to be stored at an index
module _ (f : ℕ → Entry) (g : Entry → List ℕ) (place : ℕ → ℕ) (step : (i : ℕ) (e : Entry) → place i + length (g e) ≡ place (i + 1)) (n : ℕ) (o : List ℕ) (i : ℕ) where
  pub lay-on : i < n → (e : Entry) → e ≡ f i
      → sets (sets o (place i) (g e)) (place (i + 1)) (flat g (listed f (i + 1) (n - (i + 1)))) ≡ sets o (place i) (flat g (listed f i (n - i)))
  unfolding flat listed
  lay-on h e e-is =
      let l : n - i ≡ suc (n - (i + 1)) = omega arith in
      rw (l, e-is)
      (sym
      (sets_append (g (f i)) (flat g (listed f (i + 1) (n - (i + 1)))) o (place i)
      ∙ ap (λ (k : ℕ). sets (sets o (place i) (g (f i))) k (flat g (listed f (i + 1) (n - (i + 1))))) (step i (f i))))

  pub lay-end : n ≤ i → sets o (place i) (flat g (listed f i (n - i))) ≡ o
  unfolding flat listed
  lay-end h =
      let e : n - i ≡ 0 = omega arith in
      rw e

-- where each record's numbers start
pub record_step : (i : ℕ) (e : Entry) → record_place i + length (record_bytes e) ≡ record_place (i + 1)
record_step i e = omega (arith, length_record e)

pub group_step : (i : ℕ) (e : Entry) → group_size * i + length (numbers_in e) ≡ group_size * (i + 1)
group_step i e = omega arith

pub length-groups : (es : List Entry) → length (flat numbers_in es) ≡ group_size * length es
unfolding flat
length-groups [] = refl
length-groups (e ∷ es) = omega (arith, length-groups es)

-- ---- a file's tokens, one at each index of a list
module _ (s : List ℕ) (n : ℕ) (ts : List Token) (i : ℕ) where
  pub token-on : i < n → sets (set ts i (token_in (entry_at s i))) (i + 1) (map token_in (listed (entry_at s) (i + 1) (n - (i + 1)))) ≡ sets ts i (map token_in (listed (entry_at s) i (n - i)))
  unfolding listed
  token-on h =
      let l : n - i ≡ suc (n - (i + 1)) = omega arith in
      let o : i + 1 ≡ suc i = omega arith in
      rw (l, o)

  pub token-end : n ≤ i → sets ts i (map token_in (listed (entry_at s) i (n - i))) ≡ ts
  unfolding listed
  token-end h =
      let e : n - i ≡ 0 = omega arith in
      rw e

pub tokens-all : (s : List ℕ) (ts : List Token) → sets ts 0 (map token_in (listed (entry_at s) 0 (length ts - 0))) ≡ map token_in (entries_of s (length ts))
tokens-all s ts =
    let z : length ts - 0 ≡ length ts = omega arith in
    let l = length-map (entries_of s (length ts)) token_in ∙ length-listed (entry_at s) 0 (length ts) in
    let d : drop (length (map token_in (entries_of s (length ts)))) ts ≡ [] = drop_of_length-le ts (omega (arith, l)) in
    rw z
    (sets_over (map token_in (entries_of s (length ts))) ts (omega (arith, l)) ∙ ap (λ (r : List Token). map token_in (entries_of s (length ts)) ++ r) d
    ∙ append-nil (map token_in (entries_of s (length ts))))
