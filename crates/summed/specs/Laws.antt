-- Laws that the code cites.
use Rattle.std.specs.Prelude.{◌≡◌, ℕ, suc, ◌+◌, ◌-◌, ◌%◌, ◌^◌, ◌<◌, ◌≤◌, Bool, true, false, cond, ◌&&◌, leb, List, [], ◌∷◌, length, drop, nat_le, slice_index, slice_index_or, slice_range}
use Rattle.std.proofs.Math.Numerals.{add-one}
use native.Mathlib.Omega.{arith}
use Rattle.std.proofs.Common.{◌∙◌, ap, sym, drop_of_length-le, length-drop, length-take, drop-cons, drop-drop, get_or-drop, take_all}
use Rattle.std.proofs.Math.Path.{refl}
use Rattle.std.proofs.Math.Seq.{set_out, take-nil}
use Rattle.summed.specs.Summed.{between, characters, fewer, more, token_onto, tokens_onto}

-- ---- a number that the row has not
pub more_out : (i n : ℕ) (row : List ℕ) → length row ≤ i → row ≡ more i n row
unfolding more
more_out i n row h = sym (set_out row i _ h)

pub fewer_out : (i n : ℕ) (row : List ℕ) → length row ≤ i → row ≡ fewer i n row
unfolding fewer
fewer_out i n row h = sym (set_out row i _ h)

-- what comes to x with n added to it, modulo 2^64
pub taken_off : (r n x : ℕ) → r < 2 ^ 64 → n < 2 ^ 64 → (r + n) % 2 ^ 64 ≡ x → r ≡ (x + (2 ^ 64 - n)) % 2 ^ 64
taken_off r n x h k e = omega arith

-- ---- characters
characters-le : (l : List ℕ) → characters l ≤ length l
unfolding characters
characters-le [] = omega arith
characters-le (b ∷ bs) = go (nat_le 128 b && nat_le b 191) (characters-le bs)
  where
    go : (t : Bool) → characters bs ≤ length bs → cond t (characters bs) (suc (characters bs)) ≤ suc (length bs)
    go true h = omega arith
    go false h = omega arith

pub between_le : (s : List ℕ) (a b : ℕ) → between s a b ≤ length s
unfolding between
between_le s a b =
    let h = characters-le (slice_range s a b) in
    let t = length-take (b - a) (drop a s) in
    let d = length-drop a s in
    omega arith

pub between_all : (s : List ℕ) → between s 0 (length s) ≡ characters s
unfolding between
between_all s = ap characters (take_all (length s - 0) s (omega arith))

pub between_none : (s : List ℕ) (a b : ℕ) → b ≤ a → between s a b ≡ 0
unfolding between characters
between_none s a b h = let e : b - a ≡ 0 = omega arith in rw e

pub between_past : (s : List ℕ) (a b : ℕ) → length s ≤ a → between s a b ≡ 0
unfolding between characters
between_past s a b h = rw (drop_of_length-le s {i = a} h, take-nil {A = ℕ} (b - a))

module _ (s : List ℕ) (a b : ℕ) (h : a < length s) (k : a < b) where
  pub between-inner : leb 128 (slice_index s a) && nat_le (slice_index s a) 191 ≡ true → between s a b ≡ between s (a + 1) b
  unfolding between characters
  between-inner t = let e : b - a ≡ suc (b - (a + 1)) = omega arith in rw (drop-cons s a 0 h, e, t, add-one a)

  pub between_start : leb 128 (slice_index s a) && nat_le (slice_index s a) 191 ≡ false → between s a b ≡ between s (a + 1) b + 1
  unfolding between characters
  between_start t = let e : b - a ≡ suc (b - (a + 1)) = omega arith in rw (drop-cons s a 0 h, e, t, add-one a, add-one)

-- ---- tokens
module _ (s : List ℕ) (shift : ℕ) where
  tokens-first : (l row : List ℕ) → 5 ≤ length l
      → tokens_onto s shift l row ≡ tokens_onto s shift (drop 5 l) (token_onto s (slice_index l 0) (slice_index l 1 - shift) (slice_index l 2 - shift) row)
  unfolding tokens_onto
  tokens-first [] row h = absurd (omega arith)
  tokens-first (a ∷ []) row h = absurd (omega arith)
  tokens-first (a ∷ b ∷ []) row h = absurd (omega arith)
  tokens-first (a ∷ b ∷ c ∷ []) row h = absurd (omega arith)
  tokens-first (a ∷ b ∷ c ∷ d ∷ []) row h = absurd (omega arith)
  tokens-first (a ∷ b ∷ c ∷ d ∷ e ∷ l) row h = refl

  tokens_none : (l row : List ℕ) → length l < 5 → tokens_onto s shift l row ≡ row
  unfolding tokens_onto
  tokens_none [] row h = refl
  tokens_none (a ∷ []) row h = refl
  tokens_none (a ∷ b ∷ []) row h = refl
  tokens_none (a ∷ b ∷ c ∷ []) row h = refl
  tokens_none (a ∷ b ∷ c ∷ d ∷ []) row h = refl
  tokens_none (a ∷ b ∷ c ∷ d ∷ e ∷ l) row h = absurd (omega arith)

  pub tokens-on : (at : ℕ) (ts row : List ℕ) → at + 5 ≤ length ts
      → tokens_onto s shift (drop at ts) row
      ≡ tokens_onto s shift (drop (at + 5) ts) (token_onto s (slice_index ts at) (slice_index ts (at + 1) - shift) (slice_index ts (at + 2) - shift) row)
  tokens-on at ts row h =
      let d = length-drop at ts in
      let e : at + 0 ≡ at = omega arith in
      let f : slice_index_or (drop at ts) 0 0 ≡ slice_index_or ts at 0 = get_or-drop at ts 0 0 ∙ ap (λ (i : ℕ). slice_index ts i) e in
      tokens-first (drop at ts) row (omega arith) ∙ rw (f, get_or-drop at ts 1 0, get_or-drop at ts 2 0, drop-drop 5 at ts)

  pub tokens-end : (at : ℕ) (ts row : List ℕ) → length ts < at + 5 → tokens_onto s shift (drop at ts) row ≡ row
  tokens-end at ts row h = let d = length-drop at ts in tokens_none (drop at ts) row (omega arith)
