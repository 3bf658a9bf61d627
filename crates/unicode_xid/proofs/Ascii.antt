-- Below 128 the tables say what the short tests say: one test that antt computes at each number.
-- Assumes nothing.
use mathlib.Core.Path.{◌≡◌, refl, ◌∙◌}
use mathlib.Core.Bool.{Bool, true, false, ◌&&◌, ◌||◌}
use mathlib.Core.Logic.{⊎_elim}
use Prim.Native.Nat.{ℕ, zero, suc, ◌<◌}
use native.Mathlib.Nat.{not-suc-le-zero}
use native.Mathlib.Decide.{dec_lt}
use native.Mathlib.Omega.{arith}
use Rattle.unicode_xid.specs.Tables.{start_ranges, continue_ranges}
use Rattle.unicode_xid.specs.Ranges.{holds, in_ranges}
use Rattle.unicode_xid.specs.Identifier.{is_identifier_start, is_identifier_continue, ascii_start, ascii_continue}
use Rattle.utf8.specs.Laws.{both}

abbrev same : Bool → Bool → Bool
same true b = b
same false true = false
same false false = true

same-eq : (a b : Bool) → same a b ≡ true → a ≡ b
same-eq true true e = refl
same-eq true false e = cc
same-eq false true e = cc
same-eq false false e = refl

-- the test passes at each number below n
unfoldable upto : (ℕ → Bool) → ℕ → Bool
upto f zero = true
upto f (suc n) = f n && upto f n

below : (f : ℕ → Bool) (n c : ℕ) → upto f n ≡ true → c < n → f c ≡ true
unfolding upto
below f zero c t h = absurd (not-suc-le-zero h)
below f (suc n) c t h = go (below f n c (both (f n) (upto f n) t).1) (dec_lt c n)
  where
    go : (c < n → f c ≡ true) → Dec (c < n) → f c ≡ true
    go ih (yes l) = ih l
    go ih (no l) = let e : c ≡ n = omega arith in rw e (both (f n) (upto f n) t).0

unfoldable right : ℕ → Bool
right c = same (ascii_start c) (is_identifier_start c) && same (ascii_continue c) (is_identifier_continue c)

test : upto right 128 ≡ true
unfolding upto right start_ranges continue_ranges in_ranges holds
test = refl

pub ascii_start_lem : (c : ℕ) → c < 128 → ascii_start c ≡ is_identifier_start c
unfolding right
ascii_start_lem c h = same-eq (ascii_start c) (is_identifier_start c) (both (same (ascii_start c) (is_identifier_start c)) _ (below right 128 c test h)).0

pub ascii_continue_lem : (c : ℕ) → c < 128 → ascii_continue c ≡ is_identifier_continue c
unfolding right
ascii_continue_lem c h = same-eq (ascii_continue c) (is_identifier_continue c) (both (same (ascii_start c) (is_identifier_start c)) _ (below right 128 c test h)).1
