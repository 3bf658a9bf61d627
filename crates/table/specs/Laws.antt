-- What the code cites: pieces that are put one after another, and the columns that a name leaves.
use Prim.Native.Nat.{ℕ, zero, suc, ◌+◌, ◌-◌, ◌*◌, ◌≤◌, ◌<◌}
use native.Mathlib.Omega.{arith}
use Rattle.std.proofs.Common.{eq-eqb, le-leb, leb-true, ne_eqb, append-nil, sym, ◌∙◌, length-drop, drop_at, drop-cons, get_or-take, length-take-le, take-add, take-take, Option, Some, None}
use Rattle.std.proofs.lemmas.Bool.{lt-leb}
use Rattle.std.specs.Prelude.{Bool, true, false, ◌&&◌, cond, List, [], ◌∷◌, ◌++◌, ◌≡◌, refl, leb, ltb, drop, get_or, replicate, take}
use Rattle.std.proofs.Math.Path.{ap}
use Rattle.std.proofs.Math.ListN.{length, length-append}
use Rattle.std.proofs.Math.Seq.{drop-length}
use Rattle.text.specs.Bytes.{join}
use Rattle.text.specs.Lay.{Laid, lay, lay-append, lay_all}
use Rattle.sheet.specs.Adds.{sheet_size, work_limit}
use Rattle.sheet.specs.Sheet.{within}
use Rattle.table.specs.Table.{Put, all_occur, at_right, each, is_shown, line, name_columns, number_columns, shown_lines, spaces, table_pieces, total}

-- a piece at the front of those that are put
abbrev pub PutOne : List ℕ → Option ℕ → List ℕ → Option ℕ → List ℕ → Type 0
PutOne d from l r held = (r ≡ (lay d from l).to) × (held ≡ (lay d from l).held)

pub put_one : (d : List ℕ) (from : Option ℕ) (l : List ℕ) (r : Option ℕ) (x : List ℕ) → PutOne d from l r x → Put d from (l ∷ []) r x
unfolding lay_all
put_one d from l r x h = h

pub put_first : (d : List ℕ) (from : Option ℕ) (l : List ℕ) (ls : List (List ℕ)) (c : Option ℕ) (e : List ℕ) (r : Option ℕ) (x : List ℕ) → PutOne d from l c e → Put e c ls r x
    → Put d from (l ∷ ls) r x
unfolding lay_all
put_first d from l ls c e r x h k = rw (h.0, h.1) at k

-- pieces after pieces
pub put-more : (d : List ℕ) (from : Option ℕ) (ls ms : List (List ℕ)) (c : Option ℕ) (e : List ℕ) (r : Option ℕ) (x : List ℕ) → Put d from ls c e → Put e c ms r x
    → Put d from (ls ++ ms) r x
unfolding lay_all
put-more d from [] ms c e r x h k = rw (h.0, h.1) at k
put-more d from (l ∷ ls) ms c e r x h k = put-more (lay d from l).held (lay d from l).to ls ms c e r x h k

pub put-none : (d : List ℕ) (from : Option ℕ) → Put d from [] from d
unfolding lay_all
put-none d from = (refl, refl)

-- ---- the columns that a name leaves
unfoldable pub reach : Option ℕ → ℕ
reach None = 0
reach (Some n) = n

-- n bytes were put between two places, if they fit
abbrev CameBy : Option ℕ → Option ℕ → ℕ → Type 0
CameBy s None n = Unit {0}
CameBy None (Some b) n = ⊥
CameBy (Some a) (Some b) n = b ≡ a + n

abbrev laid : Option ℕ → List ℕ → Laid
laid c x = record { to = c; held = x }

by_lay : (d : List ℕ) (s : Option ℕ) (l : List ℕ) → CameBy s (lay d s l).to (length l)
unfolding lay
by_lay d None l = tt
by_lay d (Some a) l = go (ltb (length d) (a + length l)) (take a d ++ l ++ drop (a + length l) d)
  where
    go : (t : Bool) (y : List ℕ) → CameBy (Some a) (cond t (laid None d) (laid (Some (a + length l)) y)).to (length l)
    go true y = tt
    go false y = refl

by_both : (s c f : Option ℕ) (m n : ℕ) → CameBy s c m → CameBy c f n → CameBy s f (m + n)
by_both s c None m n h k = tt
by_both s None (Some b) m n h k = absurd k
by_both None (Some a) (Some b) m n h k = absurd h
by_both (Some o) (Some a) (Some b) m n h k = omega (arith, h, k)

pad_named : (s c : Option ℕ) (n : ℕ) (ps : List (List ℕ)) (e : List ℕ) (r : Option ℕ) (x : List ℕ) → CameBy s c n
    → Put e c (spaces (name_columns - (reach c - reach s)) ∷ ps) r x → Put e c (spaces (name_columns - n) ∷ ps) r x
unfolding lay lay_all reach
pad_named s None n ps e r x h k = k
pad_named None (Some b) n ps e r x h k = absurd h
pad_named (Some a) (Some b) n ps e r x h k = let q : b - a ≡ n = omega (arith, h) in rw q at k

module _ (d : List ℕ) (s : Option ℕ) (n : ℕ) (c : Option ℕ) (e : List ℕ) (r : Option ℕ) (x : List ℕ) where
  pub line-one : (name : List ℕ) → PutOne d s name c e → Put e c (spaces (name_columns - (reach c - reach s)) ∷ at_right number_columns n) r x
      → Put d s (line (name ∷ []) n) r x
  unfolding join line
  line-one name h p =
      let i = rw (← h.0) at (by_lay d s name) in
      put_first d s name _ c e r x h (rw (append-nil name) (pad_named s c (length name) (at_right number_columns n) e r x i p))

  pub line-two : (indent name : List ℕ) (f : Option ℕ) (g : List ℕ) → PutOne d s indent f g → PutOne g f name c e
      → Put e c (spaces (name_columns - (reach c - reach s)) ∷ at_right number_columns n) r x → Put d s (line (indent ∷ name ∷ []) n) r x
  unfolding join line
  line-two indent name f g h k p =
      let i = rw (← h.0) at (by_lay d s indent) in
      let j = rw (← k.0) at (by_lay g f name) in
      let w = by_both s f c (length indent) (length name) i j in
      put_first d s indent _ f g r x h
      (put_first g f name _ c e r x k
      (rw (append-nil name, length-append indent name) (pad_named s c (length indent + length name) (at_right number_columns n) e r x w p)))

fewer : (n m : ℕ) → n ≤ m → take {A = ℕ} n (replicate m 32) ≡ replicate n 32
fewer zero m h = refl
fewer (suc n) zero h = absurd (omega (arith, h))
fewer (suc n) (suc m) h = ap (λ (l : List ℕ). 32 ∷ l) (fewer n m (omega (arith, h)))

pub few_spaces : (n columns taken : ℕ) → columns ≤ name_columns → n ≡ columns - taken → take n (spaces name_columns) ≡ spaces (columns - taken)
unfolding spaces
few_spaces n columns taken h e = rw e (fewer (columns - taken) name_columns (omega (arith, h)))

-- ---- numbers that are not too large
both : (a b : Bool) → a && b ≡ true → (a ≡ true) × (b ≡ true)
both true b h = (refl, h)
both false b h = absurd (let z : ◌≡◌ {A = ℕ} 0 1 = cc in omega (arith, z))

pub within-at : (m : ℕ) (l : List ℕ) (i : ℕ) → within m l ≡ true → i < length l → get_or l i 0 ≤ m
unfolding within
within-at m [] i w h = absurd (omega (arith, h))
within-at m (x ∷ l) zero w h = leb-true x m (both (leb x m) (within m l) w).0
within-at m (x ∷ l) (suc i) w h = within-at m l i (both (leb x m) (within m l) w).1 (omega (arith, h))

pub within-take : (m n : ℕ) (l : List ℕ) → within m l ≡ true → within m (take n l) ≡ true
unfolding within
within-take m zero l w = refl
within-take m (suc n) [] w = refl
within-take m (suc n) (x ∷ l) w = let b = both (leb x m) (within m l) w in rw (b.0, within-take m n l b.1) refl

pub within-drop : (m n : ℕ) (l : List ℕ) → within m l ≡ true → within m (drop n l) ≡ true
unfolding within
within-drop m zero l w = w
within-drop m (suc n) [] w = refl
within-drop m (suc n) (x ∷ l) w = within-drop m n l (both (leb x m) (within m l) w).1

next : (l : List ℕ) (i : ℕ) → i < length l → drop i l ≡ get_or l i 0 ∷ drop (i + 1) l
next l i h = let e : suc i ≡ i + 1 = omega arith in drop-cons l i 0 h ∙ ap (λ (k : ℕ). get_or l i 0 ∷ drop k l) e

end : (l : List ℕ) (i : ℕ) → i ≤ length l → length l ≤ i → drop i l ≡ []
end l i h k = let e : i ≡ length l = omega (arith, h, k) in rw e (drop-length l)

-- i of them are looked at
abbrev pub Smaller : List ℕ → ℕ → Type 0
Smaller l i = (i ≤ length l) × (within work_limit l ≡ within work_limit (drop i l))

pub smaller-no : (l : List ℕ) (i : ℕ) → Smaller l i → i < length l → work_limit < get_or l i 0 → false ≡ within work_limit l
unfolding within
smaller-no l i s h k = let t = rw (next l i h, lt-leb (get_or l i 0) work_limit k) at s.1 in sym t

pub smaller-on : (l : List ℕ) (i : ℕ) → Smaller l i → i < length l → get_or l i 0 ≤ work_limit → Smaller l (i + 1)
unfolding within
smaller-on l i s h k = (omega (arith, h), rw (next l i h, le-leb (get_or l i 0) work_limit k) at s.1)

pub smaller_yes : (l : List ℕ) (i : ℕ) → Smaller l i → length l ≤ i → true ≡ within work_limit l
unfolding within
smaller_yes l i s h = sym (rw (end l i s.0 h) at s.1)

-- ---- so of the numbers that are not 0
abbrev pub Occur : List ℕ → ℕ → Type 0
Occur l i = (i ≤ length l) × (all_occur l ≡ all_occur (drop i l))

pub occur-no : (l : List ℕ) (i : ℕ) → Occur l i → i < length l → get_or l i 0 ≡ 0 → false ≡ all_occur l
unfolding all_occur
occur-no l i s h k = sym (rw (next l i h, eq-eqb (get_or l i 0) 0 k) at s.1)

pub occur-on : (l : List ℕ) (i : ℕ) → Occur l i → i < length l → (get_or l i 0 ≡ 0 → ⊥) → Occur l (i + 1)
unfolding all_occur
occur-on l i s h k = (omega (arith, h), rw (next l i h, ne_eqb (get_or l i 0) 0 k) at s.1)

pub occur_yes : (l : List ℕ) (i : ℕ) → Occur l i → length l ≤ i → true ≡ all_occur l
unfolding all_occur
occur_yes l i s h = sym (rw (end l i s.0 h) at s.1)

-- ---- sums
pub total-most : (l : List ℕ) → within work_limit l ≡ true → total l ≤ work_limit * length l
unfolding total within
total-most [] w = omega arith
total-most (x ∷ l) w =
    let b = both (leb x work_limit) (within work_limit l) w in
    let i = total-most l b.1 in
    let h = leb-true x work_limit b.0 in
    omega (arith, i, h)

abbrev pub Summed : List ℕ → ℕ → ℕ → Type 0
Summed l sum i = (i ≤ length l) × (sum ≤ work_limit * i) × (total l ≡ sum + total (drop i l))

pub summed-first : (l : List ℕ) → Summed l 0 0
summed-first l = (omega arith, omega arith, omega arith)

pub summed-on : (l : List ℕ) (sum i : ℕ) → Summed l sum i → i < length l → within work_limit l ≡ true → Summed l (sum + get_or l i 0) (i + 1)
unfolding total
summed-on l sum i s h w =
    let a = within-at work_limit l i w h in
    let t = rw (next l i h) at s.2 in
    (omega (arith, h), omega (arith, a, s.1), omega (arith, t))

pub summed_all : (l : List ℕ) (sum i : ℕ) → Summed l sum i → length l ≤ i → sum ≡ total l
unfolding total
summed_all l sum i s h = let t = rw (end l i s.0 h) at s.2 in omega (arith, t)

-- ---- what is said of each number: i of them are done
abbrev pub Going : (ℕ → ℕ → List (List ℕ)) → ℕ → List ℕ → List ℕ → Option ℕ → List ℕ → Option ℕ → ℕ → Type 0
Going f k l d from e c i = (i ≤ length l) × (lay_all e c (each f (k + i) (drop i l)) ≡ lay_all d from (each f k l))

module _ (f : ℕ → ℕ → List (List ℕ)) (k : ℕ) (l d : List ℕ) (from : Option ℕ) where
  pub going-first : Going f k l d from d from 0
  going-first = let e : k + 0 ≡ k = omega arith in (omega arith, ap (λ (j : ℕ). lay_all d from (each f j l)) e)

  pub going_on : (e : List ℕ) (c : Option ℕ) (i j : ℕ) (x : List ℕ) (r : Option ℕ) → Going f k l d from e c i → i < length l → Put e c (f j (get_or l i 0)) r x → j ≡ k + i
      → Going f k l d from x r (i + 1)
  unfolding each
  going_on e c i j x r g h p q =
      let s : suc (k + i) ≡ k + (i + 1) = omega arith in
      let t = rw (next l i h, lay-append e c (f (k + i) (get_or l i 0)) (each f (suc (k + i)) (drop (i + 1) l)), s, ← q) at g.1 in
      (omega (arith, h), rw (p.0, p.1) t)

  pub going_all : (e : List ℕ) (c : Option ℕ) (i : ℕ) → Going f k l d from e c i → length l ≤ i → Put d from (each f k l) c e
  unfolding each lay_all
  going_all e c i g h =
      let t = rw (end l i g.0 h) at g.1 in
      (ap (λ (y : Laid). y.to) t, ap (λ (y : Laid). y.held) t)

-- ---- the parts of a sheet
module _ (l : List ℕ) (h : sheet_size ≤ length l) (w : within work_limit (take 58 l) ≡ true) where
  pub small_at : (i : ℕ) → i < 58 → get_or l i 0 ≤ work_limit
  small_at i k =
      let e = length-take-le 58 l (omega (arith, h)) in
      rw (get_or-take 58 l i 0 k) at (within-at work_limit (take 58 l) i w (omega (arith, e, k)))

  pub small-kinds : (length (take 54 l) ≤ 54) × (within work_limit (take 54 l) ≡ true)
  small-kinds =
      let e = length-take-le 54 l (omega (arith, h)) in
      (omega (arith, e), rw (take-take 54 58 l (omega arith)) at (within-take work_limit 54 (take 58 l) w))

  pub small-four : (length (take 4 (drop 54 l)) ≤ 54) × (within work_limit (take 4 (drop 54 l)) ≡ true)
  small-four =
      let e = length-drop 54 l in
      let f = length-take-le 4 (drop 54 l) (omega (arith, e, h)) in
      let g = length-take-le 54 l (omega (arith, h)) in
      (omega (arith, f), rw (take-add 54 4 l, drop_at (take 54 l) (take 4 (drop 54 l)) 54 g) at (within-drop work_limit 54 (take 58 l) w))

pub total-small : (l : List ℕ) (n : ℕ) → length l ≤ 54 → within work_limit l ≡ true → n ≡ total l → n ≤ 64 * work_limit
total-small l n h w e = omega (arith, total-most l w, h, e)

module _ (l : List ℕ) (n : ℕ) where
  pub table-short : length l < sheet_size → table_pieces l n ≡ []
  unfolding is_shown table_pieces
  table-short h = rw (lt-leb sheet_size (length l) h)

  pub table_large : (b : Bool) → sheet_size ≤ length l → b ≡ within work_limit (take 58 l) → b ≡ false → table_pieces l n ≡ []
  unfolding is_shown table_pieces
  table_large b h e f = rw (le-leb sheet_size (length l) h, ← e, f)

  pub table-shown : (b : Bool) → sheet_size ≤ length l → b ≡ within work_limit (take 58 l) → b ≡ true → table_pieces l n ≡ shown_lines l n
  unfolding is_shown table_pieces
  table-shown b h e f = rw (le-leb sheet_size (length l) h, ← e, f)
