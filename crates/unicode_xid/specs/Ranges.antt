-- When a table of ranges holds a number: some range does. And the tests that a table is in order, and that one lies inside another.
use Rattle.std.specs.Prelude.{ℕ, suc, Bool, true, false, ◌&&◌, ◌||◌, List, [], ◌∷◌, leb}

-- ranges, given by their first numbers and by their last
unfoldable pub zip : List ℕ → List ℕ → List (ℕ × ℕ)
zip [] his = []
zip (lo ∷ los) [] = []
zip (lo ∷ los) (hi ∷ his) = (lo, hi) ∷ zip los his

-- the number c lies in the range p, its first and its last number
unfoldable pub holds : ℕ × ℕ → ℕ → Bool
holds p c = leb p.0 c && leb c p.1

-- some range of the table holds c
unfoldable pub in_ranges : List (ℕ × ℕ) → ℕ → Bool
in_ranges [] c = false
in_ranges (p ∷ rest) c = holds p c || in_ranges rest c

-- 01: "that they ascend and are disjoint": each range begins at or above b, ends where it begins or later, and the next begins above its end
unfoldable pub ordered : ℕ → List (ℕ × ℕ) → Bool
ordered b [] = true
ordered b (p ∷ rest) = leb b p.0 && (leb p.0 p.1 && ordered (suc p.1) rest)

-- s without the ranges at its head that lie inside the range q
unfoldable pub skip : ℕ × ℕ → List (ℕ × ℕ) → List (ℕ × ℕ)
skip q [] = []
skip q (p ∷ s) = elim (leb q.0 p.0 && leb p.1 q.1) [ true ↦ skip q s | false ↦ p ∷ s ]

-- 01: "that start lies inside continue": each range of s lies inside a range of t, both ascending
unfoldable pub inside : List (ℕ × ℕ) → List (ℕ × ℕ) → Bool
inside [] [] = true
inside (p ∷ s) [] = false
inside [] (q ∷ t) = inside [] t
inside (p ∷ s) (q ∷ t) = inside (skip q (p ∷ s)) t
