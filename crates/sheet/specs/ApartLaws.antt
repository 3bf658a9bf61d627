-- What the count of a gap's comments says of each thing that a gap holds, and of each turn of the gap's reader.
use Prim.Native.Nat.{◌+◌, ◌-◌, ◌≤◌, suc, zero, ℕ}
use Rattle.std.proofs.Common.{arith, ◌∙◌, ap, sym, take-append-drop, take-add, eqb-true, le-ltb, ne_eqb, Ok, Err}
use Rattle.std.specs.Prelude.{Bool, false, true, List, [], ◌++◌, ◌∷◌, ◌≡◌, refl, eqb, drop, length, take}
use Rattle.std.proofs.Math.Seq.{length-take-le}
use Rattle.utf8.specs.Chars.{'*, '/, 'newline}
use Rattle.utf8.specs.Utf8.{width_of}
use Rattle.unicode_xid.specs.Whitespace.{is_whitespace}
use Rattle.record.specs.declared.Code.TheVariants.{UnterminatedBlockComment}
use Rattle.scan.specs.IfNext.{if_next}
use Rattle.scan.specs.Readers.{comment_end}
use Rattle.scan.specs.Seek.{line_skip, skip_more, through}
use Rattle.scan.specs.Walk.{turn_of}
use Rattle.scan.specs.Shapes.{Found}
use Rattle.scan.specs.Shapes.{Skip}
use Rattle.scan.specs.declared.Turn.TheVariants.{Pass, Stop}
use Rattle.reading.specs.Blank.{Comment, closes, ends, is_mark, line_over, one_line, opens, passes}
use Rattle.reading.specs.Blanks.{comment_blank, line-from}
use Rattle.reading.specs.Gaps.{comment_turn}
use Rattle.sheet.specs.Apart.{commented, comments, in_block, in_line, outside}

-- ---- what a gap holds, and then the characters xs
pub none-counts : comments [] ≡ 0
unfolding comments commented
none-counts = refl

-- whitespace is no slash
pub white_counts : (c : ℕ) (xs : List ℕ) → is_whitespace c ≡ true → comments (c ∷ xs) ≡ comments xs
unfolding comments commented
white_counts c xs w =
    let n : c ≡ '/ → ⊥ = λ z. let u : false ≡ true = sym (ap is_whitespace z) ∙ w in let v : ◌≡◌ {A = ℕ} 0 1 = cc in omega arith in
    rw (ne_eqb c '/ n)

-- the rest of a line: a newline or the end comes next, and neither is of a comment
line-rest : (ys xs : List ℕ) → one_line ys ≡ true → line_over xs ≡ true → commented in_line (ys ++ xs) ≡ length ys + commented outside xs
unfolding commented one_line line_over
line-rest [] [] o e = omega arith
line-rest [] (c ∷ xs) o e = rw (eqb-true c 'newline e) (omega arith)
line-rest (c ∷ ys) xs o e = go (eqb c 'newline) refl (line-rest ys xs)
  where
    go : (b : Bool) → eqb c 'newline ≡ b → (one_line ys ≡ true → line_over xs ≡ true → commented in_line (ys ++ xs) ≡ length ys + commented outside xs)
        → commented in_line (c ∷ ys ++ xs) ≡ suc (length ys) + commented outside xs
    go true q f = let z : false ≡ true = rw q at o in cc
    go false q f = let i = f (rw q at o) e in rw q (omega (arith, i))

pub line-counts : (ys xs : List ℕ) → one_line ys ≡ true → line_over xs ≡ true → comments ('/ ∷ '/ ∷ ys ++ xs) ≡ 2 + length ys + comments xs
unfolding comments commented if_next
line-counts ys xs o e = omega (arith, line-rest ys xs o e)

-- the rest of a nested comment is not empty: what follows it makes no mark of its characters
mark-same : {d : ℕ} {ys : List ℕ} → Comment d ys → (c : ℕ) (xs : List ℕ) → is_mark c (ys ++ xs) ≡ is_mark c ys
unfolding is_mark if_next
mark-same ends c xs = refl
mark-same (closes h) c xs = refl
mark-same (opens h) c xs = refl
mark-same (passes x q h) c xs = refl

block_rest : {d : ℕ} {ys : List ℕ} → Comment d ys → (xs : List ℕ) → commented (in_block d) (ys ++ xs) ≡ length ys + commented outside xs
unfolding commented is_mark if_next
block_rest ends xs = omega arith
block_rest (closes {d} h) xs =
    let i = block_rest h xs in
    let p : suc (suc d) - 1 ≡ suc d = omega arith in
    rw (le-ltb (suc (suc d)) 2 (omega arith), p) (omega (arith, i))
block_rest (opens {d} h) xs =
    let i = block_rest h xs in
    let p : d + 1 ≡ suc d = omega arith in
    rw p (omega (arith, i))
block_rest (passes c q h) xs = let i = block_rest h xs in let e = mark-same h c xs ∙ q in rw e (omega (arith, i))

pub block_counts : (ys xs : List ℕ) → Comment 1 ys → comments ('/ ∷ '* ∷ ys ++ xs) ≡ 2 + length ys + comments xs
unfolding comments commented if_next
block_counts ys xs h = omega (arith, block_rest h xs)

-- where a line is over before more characters, it is over before fewer
pub over-front : (xs ys : List ℕ) → line_over (xs ++ ys) ≡ true → line_over xs ≡ true
unfolding line_over
over-front [] ys e = refl
over-front (c ∷ xs) ys e = e

-- ---- a turn of the gap's reader at a slash: it passes m of the characters cs, and j more may follow
module _ (cs : List ℕ) (at p m b j : ℕ) where
  line-turn : m ≤ length ('/ ∷ cs) → (k : ℕ) → m ≡ k → one_line (take k ('/ ∷ cs)) ≡ true → line_over (drop k ('/ ∷ cs)) ≡ true
      → comments ('/ ∷ take (m + j) ('/ ∷ cs)) ≡ 1 + m + comments (take j (drop m ('/ ∷ cs)))
  unfolding one_line line_over
  line-turn l zero y o e = cc
  line-turn l (suc k) y o e =
      let f = over-front (take j (drop k cs)) (drop j (drop k cs)) (rw (take-append-drop j (drop k cs)) e) in
      let i = line-counts (take k cs) (take j (drop k cs)) o f in
      let n = length-take-le k cs (omega arith) in
      rw (take-add m j ('/ ∷ cs), y) (omega (arith, i, n))

  line-told : m ≤ length ('/ ∷ cs) → (x : Skip) → line_skip ('/ ∷ cs) at ≡ x → turn_of 0 x ≡ Pass p m b
      → comments ('/ ∷ take (m + j) ('/ ∷ cs)) ≡ 1 + m + comments (take j (drop m ('/ ∷ cs)))
  line-told l (Ok (q, i)) e z =
      let u : i ≡ m = cc in
      let h = line-from q i ('/ ∷ cs) false at 0 e in
      let y = h.counted in
      line-turn l h.passed (omega arith) h.one h.over
  line-told l (Err (r, q, i)) e z = cc

  block_told : (o : ℕ) → m ≤ length ('* ∷ cs) → (x : Found) → comment_end cs at ≡ x → turn_of 0 (skip_more 1 (through UnterminatedBlockComment o x)) ≡ Pass p m b
      → comments ('/ ∷ take (m + j) ('* ∷ cs)) ≡ 1 + m + comments (take j (drop m ('* ∷ cs)))
  block_told o l (Ok (q, i)) e z =
      let u : 1 + (i + 1) ≡ m = cc in
      let y : m ≡ suc (suc i) = omega arith in
      let h = block_counts (take (suc i) cs) (take j (drop (suc i) cs)) (comment_blank cs at q i e) in
      let n = length-take-le (suc i) cs (omega arith) in
      rw (take-add m j ('* ∷ cs), y) (omega (arith, h, n))
  block_told o l (Err (q, i)) e z = cc

pub comment_told : (o : ℕ) (cs : List ℕ) (at p m b j : ℕ) → m ≤ length cs → comment_turn o cs at ≡ Pass p m b
    → comments ('/ ∷ take (m + j) cs) ≡ 1 + m + comments (take j (drop m cs))
unfolding comment_turn
comment_told o [] at p m b j l e = cc
comment_told o (c ∷ cs) at p m b j l e = go (eqb c '/) (eqb c '*) refl refl
  where
    go : (t u : Bool) → eqb c '/ ≡ t → eqb c '* ≡ u → comments ('/ ∷ take (m + j) (c ∷ cs)) ≡ 1 + m + comments (take j (drop m (c ∷ cs)))
    go true u q r = let z = eqb-true c '/ q in rw z (line-told cs at p m b j l (line_skip ('/ ∷ cs) at) refl (rw z at e))
    go false true q r = let z = eqb-true c '* r in rw z (block_told cs (at + width_of '*) p m b j o l (comment_end cs (at + width_of '*)) refl (rw z at e))
    go false false q r = let f : Stop ≡ Pass p m b = rw (q, r) at e in cc
