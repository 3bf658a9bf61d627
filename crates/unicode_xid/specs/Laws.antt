-- Laws of a table of ranges: what one probe of a search by halving tells, and that a table inside another holds no more.
-- Assumes nothing.
use Rattle.std.specs.Prelude.{◌≡◌, refl, Bool, true, false, ◌&&◌, ◌||◌, List, [], ◌∷◌, ℕ, zero, suc, ◌≤◌, ◌<◌, leb, length, get_or, drop}
use Rattle.std.proofs.Common.{sym, ap, le_of_suc-le-suc, not-suc-le-zero, arith, leb-true, le-leb}
use Rattle.std.proofs.Math.Seq.{drop-length}
use Rattle.std.proofs.lemmas.Bool.{lt-leb}
use Rattle.utf8.specs.Laws.{both}
use Rattle.unicode_xid.specs.Ranges.{zip, holds, in_ranges, ordered, skip, inside}

below_holds : (p : ℕ × ℕ) (c : ℕ) → c < p.0 → holds p c ≡ false
unfolding holds
below_holds p c h = rw (lt-leb p.0 c h)

pub above_holds : (p : ℕ × ℕ) (c : ℕ) → p.1 < c → holds p c ≡ false
unfolding holds
above_holds p c h = go (leb p.0 c)
  where
    go : (t : Bool) → t && leb c p.1 ≡ false
    go true = lt-leb c p.1 h
    go false = refl

-- a number below the table's bound is in no range
above : (t : List (ℕ × ℕ)) (b c : ℕ) → ordered b t ≡ true → c < b → in_ranges t c ≡ false
unfolding in_ranges ordered
above [] b c o h = refl
above (p ∷ t) b c o h =
    let o₁ = both (leb b p.0) _ o in
    let o₂ = both (leb p.0 p.1) _ o₁.1 in
    let l₁ = leb-true b p.0 o₁.0 in
    let l₂ = leb-true p.0 p.1 o₂.0 in
    rw (below_holds p c (omega arith)) (above t (suc p.1) c o₂.1 (omega arith))

-- past the last range there is none
none_past : (t : List (ℕ × ℕ)) (c : ℕ) → in_ranges (drop (length t) t) c ≡ false
unfolding in_ranges
none_past t c = rw (drop-length t)

pub past : (t : List (ℕ × ℕ)) (c n : ℕ) → n ≡ length t → in_ranges (drop n t) c ≡ false
past t c n e = rw e (none_past t c)

-- c lies below the range k: it is in none from k on
pub from-none : (t : List (ℕ × ℕ)) (b k c : ℕ) → ordered b t ≡ true → k < length t → c < (get_or t k (0, 0)).0 → in_ranges (drop k t) c ≡ false
unfolding in_ranges ordered
from-none [] b k c o l h = absurd (not-suc-le-zero l)
from-none (p ∷ t) b zero c o l h =
    let o₁ = both (leb b p.0) _ o in
    let o₂ = both (leb p.0 p.1) _ o₁.1 in
    let l₂ = leb-true p.0 p.1 o₂.0 in
    rw (below_holds p c h) (above t (suc p.1) c o₂.1 (omega arith))
from-none (p ∷ t) b (suc k) c o l h =
    from-none t (suc p.1) k c (both (leb p.0 p.1) _ (both (leb b p.0) _ o).1).1 (le_of_suc-le-suc l) h

-- the ends ascend
pub ends : (t : List (ℕ × ℕ)) (b k : ℕ) → ordered b t ≡ true → k < length t → b ≤ (get_or t k (0, 0)).1
unfolding ordered
ends [] b k o l = absurd (not-suc-le-zero l)
ends (p ∷ t) b zero o l =
    let o₁ = both (leb b p.0) _ o in
    let l₁ = leb-true b p.0 o₁.0 in
    let l₂ = leb-true p.0 p.1 (both (leb p.0 p.1) _ o₁.1).0 in
    omega arith
ends (p ∷ t) b (suc k) o l =
    let o₁ = both (leb b p.0) _ o in
    let o₂ = both (leb p.0 p.1) _ o₁.1 in
    let l₁ = leb-true b p.0 o₁.0 in
    let l₂ = leb-true p.0 p.1 o₂.0 in
    let i = ends t (suc p.1) k o₂.1 (le_of_suc-le-suc l) in
    omega arith

-- c lies above the range k: it is in none up to k
pub to_none : (t : List (ℕ × ℕ)) (b k c : ℕ) → ordered b t ≡ true → k < length t → (get_or t k (0, 0)).1 < c → in_ranges t c ≡ in_ranges (drop (suc k) t) c
unfolding in_ranges ordered
to_none [] b k c o l h = absurd (not-suc-le-zero l)
to_none (p ∷ t) b zero c o l h = rw (above_holds p c h)
to_none (p ∷ t) b (suc k) c o l h =
    let o₂ = both (leb p.0 p.1) _ (both (leb b p.0) _ o).1 in
    let i = ends t (suc p.1) k o₂.1 (le_of_suc-le-suc l) in
    rw (above_holds p c (omega arith)) (to_none t (suc p.1) k c o₂.1 (le_of_suc-le-suc l) h)

or-true : (a b : Bool) → b ≡ true → a || b ≡ true
or-true true b e = refl
or-true false b e = e

-- c lies in the range k
pub found : (t : List (ℕ × ℕ)) (k c : ℕ) → k < length t → (get_or t k (0, 0)).0 ≤ c → c ≤ (get_or t k (0, 0)).1 → in_ranges t c ≡ true
unfolding in_ranges holds
found [] k c l h₁ h₂ = absurd (not-suc-le-zero l)
found (p ∷ t) zero c l h₁ h₂ = rw (le-leb p.0 c h₁, le-leb c p.1 h₂)
found (p ∷ t) (suc k) c l h₁ h₂ = or-true (holds p c) (in_ranges t c) (found t k c (le_of_suc-le-suc l) h₁ h₂)

-- what a range holds, a range around it holds
wider : (p q : ℕ × ℕ) (c : ℕ) → q.0 ≤ p.0 → p.1 ≤ q.1 → holds p c ≡ true → holds q c ≡ true
unfolding holds
wider p q c h₁ h₂ e =
    let b = both (leb p.0 c) (leb c p.1) e in
    let l₁ = leb-true p.0 c b.0 in
    let l₂ = leb-true c p.1 b.1 in
    rw (le-leb q.0 c (omega arith), le-leb c q.1 (omega arith))

skipped : (q : ℕ × ℕ) (s : List (ℕ × ℕ)) (c : ℕ) → in_ranges s c ≡ true → holds q c || in_ranges (skip q s) c ≡ true
unfolding in_ranges skip
skipped q [] c e = or-true (holds q c) false e
skipped q (p ∷ s) c e = go (skipped q s c) (leb q.0 p.0 && leb p.1 q.1) refl (holds p c) refl e
  where
    go : (in_ranges s c ≡ true → holds q c || in_ranges (skip q s) c ≡ true) → (t : Bool) → leb q.0 p.0 && leb p.1 q.1 ≡ t → (u : Bool) → holds p c ≡ u → u || in_ranges s c ≡ true
        → holds q c || in_ranges (skip q (p ∷ s)) c ≡ true
    go ih false f u g e = or-true (holds q c) _ (rw (f, skip) (rw g e))
    go ih true f false g e = rw (f, skip) (ih e)
    go ih true f true g e =
        let b = both (leb q.0 p.0) (leb p.1 q.1) f in
        rw (wider p q c (leb-true q.0 p.0 b.0) (leb-true p.1 q.1 b.1) g)

-- a table inside another holds no more
pub within : (s t : List (ℕ × ℕ)) (c : ℕ) → inside s t ≡ true → in_ranges s c ≡ true → in_ranges t c ≡ true
unfolding in_ranges inside
within [] [] c i e = e
within (p ∷ s) [] c i e = let z : true ≡ false = sym i in cc
within [] (q ∷ t) c i e = let z : true ≡ false = sym e in cc
within (p ∷ s) (q ∷ t) c i e = go (holds q c) (within (skip q (p ∷ s)) t c i) (skipped q (p ∷ s) c e)
  where
    go : (u : Bool) → (in_ranges (skip q (p ∷ s)) c ≡ true → in_ranges t c ≡ true) → u || in_ranges (skip q (p ∷ s)) c ≡ true → u || in_ranges t c ≡ true
    go true ih f = refl
    go false ih f = ih f

pub zip_length : (los his : List ℕ) → length los ≡ length his → length (zip los his) ≡ length los
unfolding zip
zip_length [] his e = refl
zip_length (lo ∷ los) [] e = sym e
zip_length (lo ∷ los) (hi ∷ his) e = ap suc (zip_length los his (omega arith))

pub zip-at : (los his : List ℕ) (k : ℕ) → length los ≡ length his → get_or (zip los his) k (0, 0) ≡ (get_or los k 0, get_or his k 0)
unfolding zip
zip-at [] [] k e = refl
zip-at [] (hi ∷ his) k e = let z : ◌≡◌ {A = ℕ} 0 1 = omega arith in cc
zip-at (lo ∷ los) [] k e = let z : ◌≡◌ {A = ℕ} 0 1 = omega arith in cc
zip-at (lo ∷ los) (hi ∷ his) zero e = refl
zip-at (lo ∷ los) (hi ∷ his) (suc k) e = zip-at los his k (omega arith)
