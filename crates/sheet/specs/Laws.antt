-- Laws of a sheet's numbers, and of the characters between two places.
use Rattle.std.specs.Prelude.{◌*◌, ◌+◌, ◌<◌, ◌≤◌, suc, zero, ℕ, Bool, ◌&&◌, cond, false, true, List, [], ◌∷◌, ◌≡◌, refl, eqb, leb, drop, length, replicate, take, Ok, Err}
use Rattle.std.proofs.Math.Decide.{dec_lt}
use Rattle.std.proofs.Common.{add-one, arith, ◌∙◌, sym, drop_of_length-le, length-take, drop-cons, get_or-take, length-take-le, eqb-true, le-leb, le-ltb, leb-true, lt-ltb}
use Rattle.std.proofs.Math.Path.{ap}
use Rattle.std.proofs.Math.ListN.{get_or, length-set, set}
use Rattle.std.proofs.lemmas.List.{length-replicate}
use Rattle.std.proofs.Math.Seq.{get_or-set_other, get_or-set_same, set-get_or, set_out}
use Rattle.std.proofs.lemmas.Bool.{eqb-false, lt-leb}
use Rattle.utf8.specs.Utf8.{width_of}
use Rattle.scan.specs.Deepens.{deeper-none}
use Rattle.scan.specs.Depth.{deeper}
use Rattle.scan.specs.Far.{Far, after}
use Rattle.scan.specs.Near.{wide}
use Rattle.scan.specs.Until.{left}
use Rattle.reading.specs.Attribute.{attempt}
use Rattle.reading.specs.Shapes.{Attempt}
use Rattle.sheet.specs.Adds.{between, deepest_in, empty_sheet, enter, failing, fails, texts_taken, up_to, work_limit}
use Rattle.sheet.specs.Apart.{Stand, commented, comments, in_block, in_line, nested, opened, outside, second, whites}
use Rattle.sheet.specs.Sheet.{added, is_sheet, plus, within}

-- ---- a number more
pub enter-length : (i n : ℕ) (l : List ℕ) → length (enter i n l) ≡ length l
unfolding enter
enter-length i n l = length-set l i _

pub enter-same : (i n : ℕ) (l : List ℕ) → i < length l → get_or (enter i n l) i 0 ≡ get_or l i 0 + n
unfolding enter
enter-same i n l h = get_or-set_same l i _ 0 h

pub enter-other : (i j n : ℕ) (l : List ℕ) → eqb j i ≡ false → get_or (enter i n l) j 0 ≡ get_or l j 0
unfolding enter
enter-other i j n l h = get_or-set_other l i j _ 0 (eqb-false j i h)

pub enter-none : (i : ℕ) (l : List ℕ) → enter i 0 l ≡ l
unfolding enter
enter-none i l = let e : get_or l i 0 + 0 ≡ get_or l i 0 = omega arith in ap (λ (v : ℕ). set l i v) e ∙ set-get_or l i 0

-- no number is above m
pub record Below (m : ℕ) (l : List ℕ) : Type 0 where
  pub is : (i : ℕ) → get_or l i 0 ≤ m

pub below_more : {m n : ℕ} {l : List ℕ} → m ≤ n → Below m l → Below n l
below_more h b = record { is = λ i. let x = b.is i in omega arith }

pub enter_below : (i n : ℕ) {m : ℕ} {l : List ℕ} → Below m l → Below (m + n) (enter i n l)
unfolding enter
enter_below i n {m} {l} b = record { is = λ j. go j (eqb j i) refl (dec_lt i (length l)) }
  where
    go : (j : ℕ) (t : Bool) → eqb j i ≡ t → Dec (i < length l) → get_or (set l i (get_or l i 0 + n)) j 0 ≤ m + n
    go j true q (yes h) = let x = b.is i in let e = get_or-set_same l i (get_or l i 0 + n) 0 h in rw (eqb-true j i q, e) (omega arith)
    go j true q (no h) = let x = b.is j in rw (set_out l i (get_or l i 0 + n) (omega arith)) (omega arith)
    go j false q h = let x = b.is j in rw (get_or-set_other l i j (get_or l i 0 + n) 0 (eqb-false j i q)) (omega arith)

-- so there is room for n more; and afterwards
pub enter-fits : (i n : ℕ) {m : ℕ} {l : List ℕ} → Below m l → i < length l → m + n < 0x10000000000000000 → (i < length l) × (get_or l i 0 + n < 0x10000000000000000)
enter-fits i n b h k = let x = b.is i in (h, omega arith)

pub entered-fits : (i n : ℕ) {m k : ℕ} {l l' : List ℕ} → l' ≡ enter i n l → Below m l → length l ≡ k → Below (m + n) l' × (length l' ≡ k)
entered-fits i n {m} {k} {l} {l'} e b h = (rw e (enter_below i n b), ap length e ∙ enter-length i n l ∙ h)

zeros_below : (n i : ℕ) → get_or (replicate n 0) i 0 ≤ 0
zeros_below zero zero = omega arith
zeros_below zero (suc i) = omega arith
zeros_below (suc n) zero = omega arith
zeros_below (suc n) (suc i) = zeros_below n i

pub empty_below : Below 0 empty_sheet
unfolding empty_sheet
empty_below = record { is = zeros_below 96 }

pub empty_length : length empty_sheet ≡ 96
unfolding empty_sheet
empty_length = length-replicate {A = ℕ} 96 0

-- ---- sums
pub plus-length : (xs ys : List ℕ) → length (plus xs ys) ≡ length xs
unfolding plus
plus-length [] ys = refl
plus-length (x ∷ xs) [] = refl
plus-length (x ∷ xs) (y ∷ ys) = ap suc (plus-length xs ys)

pub plus-at : (xs ys : List ℕ) (i : ℕ) → i < length xs → get_or (plus xs ys) i 0 ≡ get_or xs i 0 + get_or ys i 0
unfolding plus
plus-at [] ys i h = absurd (omega arith)
plus-at (x ∷ xs) [] zero h = omega arith
plus-at (x ∷ xs) [] (suc i) h = omega arith
plus-at (x ∷ xs) (y ∷ ys) zero h = refl
plus-at (x ∷ xs) (y ∷ ys) (suc i) h = plus-at xs ys i (omega arith)

pub plus-enter : (i n : ℕ) (xs ys : List ℕ) → i < length xs → i < length ys → plus xs (enter i n ys) ≡ enter i n (plus xs ys)
unfolding plus enter
plus-enter i n [] ys h k = absurd (omega arith)
plus-enter i n (x ∷ xs) [] h k = absurd (omega arith)
plus-enter zero n (x ∷ xs) (y ∷ ys) h k = let e : x + (y + n) ≡ x + y + n = omega arith in ap (λ (v : ℕ). v ∷ plus xs ys) e
plus-enter (suc i) n (x ∷ xs) (y ∷ ys) h k = ap (λ (l : List ℕ). (x + y) ∷ l) (plus-enter i n xs ys (omega arith) (omega arith))

plus-zeros : (n : ℕ) (xs : List ℕ) → plus xs (replicate n 0) ≡ xs
unfolding plus
plus-zeros n [] = refl
plus-zeros zero (x ∷ xs) = refl
plus-zeros (suc n) (x ∷ xs) = let e : x + 0 ≡ x = omega arith in rw (e, plus-zeros n xs)

pub plus_empty : (xs : List ℕ) → plus xs empty_sheet ≡ xs
unfolding empty_sheet
plus_empty xs = plus-zeros 96 xs

-- ---- sums, and of the depths the greater
module _ (xs ys : List ℕ) where
  pub added-length : length (added xs ys) ≡ length xs
  unfolding added
  added-length = length-set (plus xs ys) deepest_in _ ∙ plus-length xs ys

  pub added-at : (i : ℕ) → eqb i deepest_in ≡ false → i < length xs → get_or (added xs ys) i 0 ≡ get_or xs i 0 + get_or ys i 0
  unfolding added
  added-at i e h = get_or-set_other (plus xs ys) deepest_in i _ 0 (eqb-false i deepest_in e) ∙ plus-at xs ys i h

  module _ (h : deepest_in < length xs) where
    pub added-deep : get_or (added xs ys) deepest_in 0 ≡ deeper (get_or xs deepest_in 0) (get_or ys deepest_in 0)
    unfolding added
    added-deep = get_or-set_same (plus xs ys) deepest_in _ 0 (omega (arith, h, plus-length xs ys))

    -- where no depth is added they are sums
    pub added_sums : get_or ys deepest_in 0 ≡ 0 → added xs ys ≡ plus xs ys
    unfolding added
    added_sums e =
        let a = plus-at xs ys deepest_in h in
        let b : deeper (get_or xs deepest_in 0) (get_or ys deepest_in 0) ≡ get_or (plus xs ys) deepest_in 0 = ap (deeper (get_or xs deepest_in 0)) e ∙ deeper-none (get_or xs deepest_in 0) ∙ omega (arith, a, e) in
        ap (λ (v : ℕ). set (plus xs ys) deepest_in v) b ∙ set-get_or (plus xs ys) deepest_in 0

-- ---- the characters before a place
before-none : (cs : List ℕ) (a : ℕ) → up_to cs a a ≡ []
unfolding up_to
before-none [] a = refl
before-none (c ∷ cs) a = rw (le-ltb a a (omega arith))

after_on : (m : ℕ) (cs : List ℕ) (a : ℕ) → a ≤ after m cs a
unfolding after
after_on zero cs a = omega arith
after_on (suc m) [] a = omega arith
after_on (suc m) (c ∷ cs) a = let h = after_on m cs (a + width_of c) in omega arith

-- where m characters lead to a place, they stand before it
up_to-after : (m : ℕ) (cs : List ℕ) (a : ℕ) → m ≤ length cs → up_to cs a (after m cs a) ≡ take m cs
unfolding up_to after
up_to-after zero cs a h = before-none cs a
up_to-after (suc m) [] a h = absurd (omega arith)
up_to-after (suc m) (c ∷ cs) a h =
    let w = wide c in
    let g = after_on m cs (a + width_of c) in
    rw (lt-ltb a (after m cs (a + width_of c)) (omega arith)) (ap (λ (l : List ℕ). c ∷ l) (up_to-after m cs (a + width_of c) (omega arith)))

pub up_to_far : (cs : List ℕ) (a m b : ℕ) → Far cs a m b → up_to cs a b ≡ take m cs
up_to_far cs a m b f = rw f.there (up_to-after m cs a f.within)

-- the characters of a span are as many as lead to its end
pub span_length : (s : List ℕ) (o m p : ℕ) → Far (left s o) o m p → length (between s o p) ≡ m
unfolding between
span_length s o m p f = ap length (up_to_far (left s o) o m p f) ∙ length-take-le m (left s o) f.within

-- an attempt fails once at the most
pub fails-le : (cs : List ℕ) (o : ℕ) → fails cs o ≤ 1
unfolding fails
fails-le [] o = omega arith
fails-le (c ∷ cs) o = go (eqb c 35) (attempt cs (o + width_of c))
  where
    go : (b : Bool) (x : Attempt) → cond b (failing x) 0 ≤ 1
    go true (Ok (p, m)) = omega arith
    go true (Err (p, m)) = omega arith
    go false x = omega arith

-- ---- comments are part of their gap
commented-le : (xs : List ℕ) (w : Stand) → commented w xs ≤ length xs
unfolding commented
commented-le [] outside = omega arith
commented-le [] in_line = omega arith
commented-le [] (in_block d) = omega arith
commented-le [] (second w) = omega arith
commented-le (c ∷ cs) outside = go (eqb c 47) (commented-le cs (opened cs)) (commented-le cs outside)
  where
    go : {m n : ℕ} (b : Bool) → m ≤ length cs → n ≤ length cs → cond b (suc m) n ≤ suc (length cs)
    go true p q = omega arith
    go false p q = omega arith
commented-le (c ∷ cs) in_line = go (eqb c 10) (commented-le cs outside) (commented-le cs in_line)
  where
    go : {m n : ℕ} (b : Bool) → m ≤ length cs → n ≤ length cs → cond b m (suc n) ≤ suc (length cs)
    go true p q = omega arith
    go false p q = omega arith
commented-le (c ∷ cs) (in_block d) = let h = commented-le cs (nested d c cs) in omega (arith, h)
commented-le (c ∷ cs) (second w) = let h = commented-le cs w in omega (arith, h)

pub comments-le : (xs : List ℕ) → comments xs ≤ length xs
unfolding comments
comments-le xs = commented-le xs outside

pub whites-comments : (xs : List ℕ) → whites xs + comments xs ≡ length xs
unfolding whites
whites-comments xs = let h = comments-le xs in omega arith

-- ---- the test of a sheet, number by number
module _ (n : ℕ) (l : List ℕ) (i : ℕ) (h : i < 96) (k : 96 ≤ length l) where
  first : drop i (take 96 l) ≡ get_or l i 0 ∷ drop (suc i) (take 96 l)
  first = let e = length-take-le 96 l k in drop-cons (take 96 l) i 0 (omega arith) ∙ ap (λ (v : ℕ). v ∷ drop (suc i) (take 96 l)) (get_or-take 96 l i 0 h)

  pub within_on : get_or l i 0 ≤ n → within n (drop i (take 96 l)) ≡ within n (drop (i + 1) (take 96 l))
  unfolding within
  within_on m = rw (add-one i, first) (rw (le-leb (get_or l i 0) n m))

  pub within-not : n < get_or l i 0 → within n (drop i (take 96 l)) ≡ false
  unfolding within
  within-not m = rw first (rw (lt-leb (get_or l i 0) n m))

pub within_all : (n : ℕ) (l : List ℕ) → within n (drop 96 (take 96 l)) ≡ true
unfolding within
within_all n l = rw (drop_of_length-le (take 96 l) {i = 96} (omega (arith, length-take 96 l)))

-- and what it says of each
within-each : (n : ℕ) (l : List ℕ) (i : ℕ) → within n l ≡ true → i < length l → get_or l i 0 ≤ n
unfolding within
within-each n [] i e h = absurd (omega arith)
within-each n (x ∷ l) i e h = go (leb x n) refl i e h (within-each n l)
  where
    go : (b : Bool) → leb x n ≡ b → (i : ℕ) → b && within n l ≡ true → i < length (x ∷ l) → ((i : ℕ) → within n l ≡ true → i < length l → get_or l i 0 ≤ n) → get_or (x ∷ l) i 0 ≤ n
    go true q zero e h f = leb-true x n q
    go true q (suc i) e h f = f i e (omega arith)
    go false q i e h f = let w : ◌≡◌ {A = ℕ} 0 1 = cc in absurd (omega arith)

pub within_these : (n : ℕ) (l : List ℕ) → ((i : ℕ) → i < length l → get_or l i 0 ≤ n) → within n l ≡ true
unfolding within
within_these n [] f = refl
within_these n (x ∷ l) f = rw (le-leb x n (f 0 (omega arith))) (within_these n l (λ i h. f (suc i) (omega arith)))

pub within_of : (n : ℕ) (l : List ℕ) → 96 ≤ length l → ((i : ℕ) → i < 96 → get_or l i 0 ≤ n) → within n (take 96 l) ≡ true
within_of n l k f =
    let m = length-take-le 96 l k in
    within_these n (take 96 l) (λ i h. let j : i < 96 = omega (arith, m, h) in rw (get_or-take 96 l i 0 j) (f i j))

pub sheet_each : (l : List ℕ) (i : ℕ) → is_sheet l ≡ true → 96 ≤ length l → i < 96 → get_or l i 0 ≤ work_limit * get_or l texts_taken 0
unfolding is_sheet
sheet_each l i e k h =
    let m = length-take-le 96 l k in
    let g = within-each (work_limit * get_or l texts_taken 0) (take 96 l) i e (omega arith) in
    rw (get_or-take 96 l i 0 h) at g

-- ---- a sum, number by number
pub plus_none : (xs : List ℕ) → plus xs [] ≡ xs
unfolding plus
plus_none [] = refl
plus_none (x ∷ xs) = refl

pub plus-take : (xs ys : List ℕ) (i : ℕ) → i < length xs → i < length ys
    → (get_or (plus xs (take i ys)) i 0 ≡ get_or xs i 0) × (set (plus xs (take i ys)) i (get_or xs i 0 + get_or ys i 0) ≡ plus xs (take (i + 1) ys))
unfolding plus
plus-take [] ys i h k = absurd (omega arith)
plus-take (x ∷ xs) [] i h k = absurd (omega arith)
plus-take (x ∷ xs) (y ∷ ys) zero h k = (refl, ap (λ (l : List ℕ). (x + y) ∷ l) (sym (plus_none xs)))
plus-take (x ∷ xs) (y ∷ ys) (suc i) h k =
    let g = plus-take xs ys i (omega arith) (omega arith) in
    let e : suc i + 1 ≡ suc (i + 1) = omega arith in
    (g.0, rw e (ap (λ (l : List ℕ). (x + y) ∷ l) g.1))
