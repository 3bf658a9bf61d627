-- HOW DEEP BLOCK COMMENTS GO, said of their marks alone, without the reader's state. 02, E4: "The reader of a block comment shall answer its end and its
-- greatest depth, 1 for a plain one", "No block comment is 0". `Comment` (reading/specs/Blank) says which characters after the opening mark are a comment.
use Prim.Native.Nat.{◌+◌, ◌-◌, ◌≤◌, suc, zero, ℕ}
use native.Mathlib.Omega.{arith}
use Rattle.std.specs.Prelude.{Bool, ◌&&◌, cond, eqb, ltb, drop, length, take, Ok, Err}
use Rattle.std.proofs.Math.Bool.{false, true}
use mathlib.Core.List.{List, [], ◌++◌, ◌∷◌}
use Rattle.std.proofs.Common.{◌∙◌, take-append-drop, drop-drop, take-add, eqb-true, le-ltb}
use Rattle.std.proofs.Math.Path.{◌≡◌, ap, refl, sym}
use Rattle.utf8.specs.Chars.{'*, '/}
use Rattle.utf8.specs.Utf8.{width_of}
use Rattle.unicode_xid.specs.Whitespace.{is_whitespace}
use Rattle.record.specs.declared.Code.TheVariants.{UnterminatedBlockComment}
use Rattle.scan.specs.Deepens.{deeper-none, deeper_of_none, deeper-right, deeper-skip, deeper_three, left_below}
use Rattle.scan.specs.Depth.{comment_depth, cover_depth, deeper, deepest, depth_from, slash_depth, walk_depth}
use Rattle.scan.specs.Far.{Far}
use Rattle.scan.specs.IfNext.{if_next}
use Rattle.scan.specs.Passes.{Good}
use Rattle.scan.specs.Readers.{com_done, com_step, comment_end, depth_of}
use Rattle.scan.specs.Seek.{line_skip, skip_more, through}
use Rattle.scan.specs.Walk.{turn_of, walk_from}
use Rattle.scan.specs.declared.Com.{Com}
use Rattle.scan.specs.declared.Com.TheVariants.{Complete, Open, Slash, Star}
use Rattle.scan.specs.Shapes.{Found, Skip, same_ok}
use Rattle.scan.specs.declared.Turn.{Turn}
use Rattle.scan.specs.declared.Turn.TheVariants.{Fail, Pass, Stop}
use Rattle.reading.specs.Blank.{Comment, closes, ends, is_mark, line_over, one_line, opens, passes}
use Rattle.reading.specs.Blanks.{comment_blank, line-from}
use Rattle.reading.specs.Gaps.{comment_turn, gap, gap_last, gap_turn}
use Rattle.reading.specs.Passes.{gap_good}
use Rattle.spans.specs.Comments.{some}

-- slash and star open a comment, star and slash close one
abbrev pub open_mark : ℕ → ℕ → Bool
open_mark c e = eqb c '/ && eqb e '*

abbrev pub close_mark : ℕ → ℕ → Bool
close_mark c e = eqb c '* && eqb e '/

-- With d comments open, how many are open at most in the characters of the rest of a comment: slash and star open one more, star and slash close one,
-- and the two characters of a mark are passed together.
unfoldable pub most : ℕ → List ℕ → ℕ
most d [] = d
most d (c ∷ []) = d
most d (c ∷ e ∷ xs) =
    elim (open_mark c e) [
      | true ↦ most (d + 1) xs
      | false ↦ elim (close_mark c e) [ true ↦ deeper d (most (d - 1) xs) | false ↦ most d (e ∷ xs) ]
    ]

-- The characters of a gap, before the characters rest of the text, with the greatest depth of their block comments: as `Blank` has them, nothing; a
-- whitespace character; a comment to the end of its line, ys without the slashes; a block comment, ys without the mark that opens it; and then the same
-- again. Only a block comment counts.
pub data Layers (rest : List ℕ) : List ℕ → ℕ → Type 0 where
  nothing : Layers rest [] 0
  white : {xs : List ℕ} {d : ℕ} (c : ℕ) → is_whitespace c ≡ true → Layers rest xs d → Layers rest (c ∷ xs) d
  line : {xs : List ℕ} {d : ℕ} (ys : List ℕ) → one_line ys ≡ true → line_over (xs ++ rest) ≡ true → Layers rest xs d → Layers rest ('/ ∷ '/ ∷ ys ++ xs) d
  block : {xs : List ℕ} {d : ℕ} (ys : List ℕ) → Comment 1 ys → Layers rest xs d → Layers rest ('/ ∷ '* ∷ ys ++ xs) (deeper (most 1 ys) d)

-- ---- the marks
-- at least as many as are open
most_least : (d : ℕ) (xs : List ℕ) → d ≤ most d xs
unfolding most
most_least d [] = omega arith
most_least d (c ∷ []) = omega arith
most_least d (c ∷ e ∷ xs) = go (open_mark c e) (close_mark c e) (most_least (d + 1) xs) (most_least d (e ∷ xs))
  where
    go : (a b : Bool) → d + 1 ≤ most (d + 1) xs → d ≤ most d (e ∷ xs)
        → d ≤ elim a [ true ↦ most (d + 1) xs | false ↦ elim b [ true ↦ deeper d (most (d - 1) xs) | false ↦ most d (e ∷ xs) ] ]
    go true b p q = omega arith
    go false true p q = left_below d (most (d - 1) xs)
    go false false p q = q

-- a character that starts no mark
test : (b : Bool) → cond b true false ≡ false → b ≡ false
test true e = e
test false e = refl

most-on : (d c e : ℕ) (xs : List ℕ) → open_mark c e ≡ false → close_mark c e ≡ false → most d (c ∷ e ∷ xs) ≡ most d (e ∷ xs)
unfolding most
most-on d c e xs p q =
    ap (λ (a : Bool). elim a [ true ↦ most (d + 1) xs | false ↦ elim (close_mark c e) [ true ↦ deeper d (most (d - 1) xs) | false ↦ most d (e ∷ xs) ] ]) p
    ∙ ap (λ (b : Bool). elim b [ true ↦ deeper d (most (d - 1) xs) | false ↦ most d (e ∷ xs) ]) q

most-passes : (d c e : ℕ) (xs : List ℕ) → is_mark c (e ∷ xs) ≡ false → most d (c ∷ e ∷ xs) ≡ most d (e ∷ xs)
unfolding is_mark if_next
most-passes d c e xs m = go (eqb c '*) (eqb c '/) refl refl
  where
    go : (a b : Bool) → eqb c '* ≡ a → eqb c '/ ≡ b → most d (c ∷ e ∷ xs) ≡ most d (e ∷ xs)
    go true b p q =
        let g : eqb e '/ ≡ false = test (eqb e '/) (rw p at m) in
        rw (eqb-true c '* p) (most-on d '* e xs refl g)
    go false true p q =
        let g : eqb e '* ≡ false = test (eqb e '*) (rw (p, q) at m) in
        rw (eqb-true c '/ q) (most-on d '/ e xs g refl)
    go false false p q = most-on d c e xs (rw q) (rw p)

-- ---- the reader, from character to character
module _ (c : ℕ) (cs : List ℕ) (m : ℕ) where
  steps : (st st' : Com) → com_step st c ≡ st' → com_done st' ≡ false → deepest st (c ∷ cs) m ≡ deepest st' cs (deeper m (depth_of st'))
  unfolding deepest
  steps st st' e d = let f : com_done (com_step st c) ≡ false = ap com_done e ∙ d in rw (f, deepest) (rw e)

  steps_last : (st st' : Com) → com_step st c ≡ st' → com_done st' ≡ true → deepest st (c ∷ cs) m ≡ m
  unfolding deepest
  steps_last st st' e d = let f : com_done (com_step st c) ≡ true = ap com_done e ∙ d in rw (f, deepest)

  -- after a star or a slash that starts no mark the reader goes on as after any other character
  same_step : (st st' : Com) → com_step st c ≡ com_step st' c → deepest st (c ∷ cs) m ≡ deepest st' (c ∷ cs) m
  unfolding deepest
  same_step st st' e = ap (λ (x : Com). elim (com_done x) [ true ↦ m | false ↦ deepest x cs (deeper m (depth_of x)) ]) e

-- no fewer than were open till now
no_less : (st : Com) (cs : List ℕ) (m : ℕ) → m ≤ deepest st cs m
unfolding deepest
no_less st [] m = omega arith
no_less st (c ∷ cs) m = go (com_done (com_step st c)) (no_less (com_step st c) cs (deeper m (depth_of (com_step st c))))
  where
    go : (b : Bool) → deeper m (depth_of (com_step st c)) ≤ deepest (com_step st c) cs (deeper m (depth_of (com_step st c)))
        → m ≤ elim b [ true ↦ m | false ↦ deepest (com_step st c) cs (deeper m (depth_of (com_step st c))) ]
    go true h = omega arith
    go false h = let l = left_below m (depth_of (com_step st c)) in omega arith

-- ---- a comment: by its last mark, its inner marks, and the characters that are none
-- with d open, before the characters xs of a comment
abbrev Deep : ℕ → List ℕ → List ℕ → Type 0
Deep d xs rest = (m : ℕ) → deepest (Open d) (xs ++ rest) m ≡ deeper m (most d xs)

module _ (d : ℕ) (rest : List ℕ) where
  deep_close : (xs : List ℕ) → ltb d 2 ≡ false → Deep (d - 1) xs rest → Deep d ('* ∷ '/ ∷ xs) rest
  unfolding most
  deep_close xs l f m =
      let n = deeper m d in
      let h = most_least (d - 1) xs in
      steps '* ('/ ∷ (xs ++ rest)) m (Open d) (Star d) refl refl ∙ steps '/ (xs ++ rest) n (Star d) (Open (d - 1)) (rw l) refl
      ∙ f (deeper n (d - 1)) ∙ deeper-skip n (d - 1) (most (d - 1) xs) h ∙ deeper_three m d (most (d - 1) xs)

  deep_open : (xs : List ℕ) → Deep (d + 1) xs rest → Deep d ('/ ∷ '* ∷ xs) rest
  unfolding most
  deep_open xs f m =
      let n = deeper m d in
      let h = most_least (d + 1) xs in
      steps '/ ('* ∷ (xs ++ rest)) m (Open d) (Slash d) refl refl ∙ steps '* (xs ++ rest) n (Slash d) (Open (d + 1)) refl refl
      ∙ f (deeper n (d + 1)) ∙ deeper-skip n (d + 1) (most (d + 1) xs) h ∙ deeper-skip m d (most (d + 1) xs) (omega arith)

  -- a character that starts no mark
  deep_pass : (c : ℕ) (xs : List ℕ) → (xs ≡ [] → ⊥) → is_mark c xs ≡ false → Deep d xs rest → Deep d (c ∷ xs) rest
  unfolding is_mark if_next
  deep_pass c [] k i f m = absurd (k refl)
  deep_pass c (x ∷ xs) k i f m = go (eqb c '*) (eqb c '/) refl refl ∙ f n ∙ deeper-skip m d (most d (x ∷ xs)) (most_least d (x ∷ xs)) ∙ ap (deeper m) (sym (most-passes d c x xs i))
    where
      n : ℕ
      n = deeper m d

      go : (a b : Bool) → eqb c '* ≡ a → eqb c '/ ≡ b → deepest (Open d) (c ∷ x ∷ (xs ++ rest)) m ≡ deepest (Open d) (x ∷ (xs ++ rest)) (deeper m d)
      go true b p q =
          let g : eqb x '/ ≡ false = test (eqb x '/) (rw p at i) in
          steps c (x ∷ (xs ++ rest)) m (Open d) (Star d) (rw p) refl ∙ same_step x (xs ++ rest) (deeper m d) (Star d) (Open d) (rw g)
      go false true p q =
          let g : eqb x '* ≡ false = test (eqb x '*) (rw (p, q) at i) in
          steps c (x ∷ (xs ++ rest)) m (Open d) (Slash d) (rw (p, q)) refl ∙ same_step x (xs ++ rest) (deeper m d) (Slash d) (Open d) (rw g)
      go false false p q = steps c (x ∷ (xs ++ rest)) m (Open d) (Open d) (rw (p, q)) refl

deep : {d : ℕ} {xs : List ℕ} → Comment d xs → (rest : List ℕ) → Deep d xs rest
unfolding most
deep ends rest m = steps '* ('/ ∷ rest) m (Open 1) (Star 1) refl refl ∙ steps_last '/ rest (deeper m 1) (Star 1) Complete refl refl
deep (closes {d} {xs} h) rest m =
    let z : suc d ≡ suc (suc d) - 1 = omega arith in
    deep_close (suc (suc d)) rest xs (le-ltb (suc (suc d)) 2 (omega arith)) (rw z at (deep h rest)) m
deep (opens {d} {xs} h) rest m =
    let z : suc d ≡ d + 1 = omega arith in
    deep_open d rest xs (rw z at (deep h rest)) m
deep (passes {d} {xs} c i h) rest m = deep_pass d rest c xs (some h) i (deep h rest) m

-- ---- THE THEOREMS OF A COMMENT. What the reader answers, after the opening mark of a comment, is what its marks say.
pub comment_deep : (xs rest : List ℕ) → Comment 1 xs → comment_depth (xs ++ rest) ≡ most 1 xs
comment_deep xs rest c = deep c rest 1 ∙ deeper-right 1 (most 1 xs) (most_least 1 xs)

pub comment_deepest : (cs : List ℕ) (at p m : ℕ) → comment_end cs at ≡ Ok (p, m) → comment_depth cs ≡ most 1 (take (suc m) cs)
comment_deepest cs at p m e =
    ap comment_depth (sym (take-append-drop (suc m) cs)) ∙ comment_deep (take (suc m) cs) (drop (suc m) cs) (comment_blank cs at p m e)

-- so of a comment that a walk passes, in a gap or in code, from its opening mark on
pub cover_marks : (cs : List ℕ) (at p m : ℕ) → comment_end cs at ≡ Ok (p, m) → cover_depth '/ ('* ∷ cs) ≡ most 1 (take (suc m) cs)
unfolding slash_depth
cover_marks cs at p m e = comment_deepest cs at p m e

-- "1 for a plain one", and no comment less
pub at_least_one : (cs : List ℕ) → 1 ≤ comment_depth cs
at_least_one cs = no_less (Open 1) cs 1

-- ---- a walk: what was the greatest till now may be said last
module _ (see : ℕ → ℕ → List ℕ → ℕ → ℕ → Turn) where
  depth-more : (k : ℕ) (cs : List ℕ) (b at d : ℕ) → depth_from see k cs b at d ≡ deeper d (depth_from see k cs b at 0)
  unfolding depth_from
  depth-more zero [] b at d = sym (deeper-none d)
  depth-more (suc k) [] b at d = sym (deeper-none d)
  depth-more (suc k) (c ∷ cs) b at d = depth-more k cs b (at + width_of c) d
  depth-more zero (c ∷ cs) b at d = go (see b c cs at (at + width_of c)) (λ m b'. depth-more m cs b' (at + width_of c))
    where
      go : (t : Turn) → ((m b' d : ℕ) → depth_from see m cs b' (at + width_of c) d ≡ deeper d (depth_from see m cs b' (at + width_of c) 0))
          → elim t [ Stop ↦ d | Fail r p m ↦ d | Pass p m b' ↦ depth_from see m cs b' (at + width_of c) (deeper d (cover_depth c cs)) ]
          ≡ deeper d (elim t [ Stop ↦ 0 | Fail r p m ↦ 0 | Pass p m b' ↦ depth_from see m cs b' (at + width_of c) (deeper 0 (cover_depth c cs)) ])
      go Stop f = sym (deeper-none d)
      go (Fail r p m) f = sym (deeper-none d)
      go (Pass p m b') f =
          let x = cover_depth c cs in
          let y = depth_from see m cs b' (at + width_of c) 0 in
          f m b' (deeper d x) ∙ deeper_three d x y
          ∙ ap (deeper d) (sym (f m b' (deeper 0 x) ∙ ap (λ (z : ℕ). deeper z y) (deeper_of_none x)))

  -- what one character covers, and then the rest
  depth-covers : (c : ℕ) (cs : List ℕ) (b at p m b' : ℕ) → see b c cs at (at + width_of c) ≡ Pass p m b'
      → depth_from see 0 (c ∷ cs) b at 0 ≡ deeper (cover_depth c cs) (depth_from see m cs b' (at + width_of c) 0)
  unfolding depth_from
  depth-covers c cs b at p m b' e =
      let x = cover_depth c cs in
      let y : depth_from see m cs b' (at + width_of c) (deeper 0 x) ≡ deeper x (depth_from see m cs b' (at + width_of c) 0) =
      depth-more m cs b' (at + width_of c) (deeper 0 x) ∙ ap (λ (z : ℕ). deeper z (depth_from see m cs b' (at + width_of c) 0)) (deeper_of_none x) in
      rw (e, depth_from) y

  depth_stops : (c : ℕ) (cs : List ℕ) (b at : ℕ) → see b c cs at (at + width_of c) ≡ Stop → depth_from see 0 (c ∷ cs) b at 0 ≡ 0
  unfolding depth_from
  depth_stops c cs b at e = rw (e, depth_from)

-- ---- a turn of the gap: its character c, and what it covers of the characters cs after it, before what is blank
abbrev CoversIn : ℕ → List ℕ → Turn → Type 0
CoversIn c cs Stop = Unit {0}
CoversIn c cs (Fail r p m) = Unit {0}
CoversIn c cs (Pass p m b) =
    (xs rest : List ℕ) (d : ℕ) → drop m cs ≡ xs ++ rest → Layers rest xs d → Layers rest (c ∷ take m cs ++ xs) (deeper (cover_depth c cs) d)

record Covers (c : ℕ) (cs : List ℕ) (x : Turn) : Type 0 where
  is : CoversIn c cs x

module _ (cs : List ℕ) (at : ℕ) where
  -- the second slash is no newline
  line-slashes : (m k : ℕ) → m ≡ k → one_line (take k ('/ ∷ cs)) ≡ true → line_over (drop k ('/ ∷ cs)) ≡ true
      → (xs rest : List ℕ) (d : ℕ) → drop m ('/ ∷ cs) ≡ xs ++ rest → Layers rest xs d
      → Layers rest ('/ ∷ take m ('/ ∷ cs) ++ xs) (deeper (cover_depth '/ ('/ ∷ cs)) d)
  unfolding one_line line_over slash_depth
  line-slashes m zero y a b xs rest d e h = let w : ◌≡◌ {A = ℕ} 0 1 = cc in absurd (omega arith)
  line-slashes m (suc k) y a b xs rest d e h = rw (deeper_of_none d, y) (line {xs = xs} (take k cs) a (rw (← e, y) b) h)

  line-covers : (x : Skip) → line_skip ('/ ∷ cs) at ≡ x → Covers '/ ('/ ∷ cs) (turn_of 0 x)
  line-covers (Ok (p, m)) e =
      let l = line-from p m ('/ ∷ cs) false at 0 e in
      let y = l.counted in
      record { is = line-slashes m l.passed (omega arith) l.one l.over }
  line-covers (Err (r, p, m)) e = record { is = tt }

  block_covers : (o : ℕ) (f : Found) → comment_end cs at ≡ f → Covers '/ ('* ∷ cs) (turn_of 0 (skip_more 1 (through UnterminatedBlockComment o f)))
  unfolding slash_depth
  block_covers o (Ok (p, m)) e = record {
    is = λ xs rest d g h.
        let z : 1 + (m + 1) ≡ suc (suc m) = omega arith in
        rw (z, comment_deepest cs at p m e) (block (take (suc m) cs) (comment_blank cs at p m e) h);
  }
  block_covers o (Err (p, m)) e = record { is = tt }

covers-test : (c : ℕ) (cs : List ℕ) (t : Bool) (x y : Turn) → (t ≡ true → Covers c cs x) → (t ≡ false → Covers c cs y) → Covers c cs (cond t x y)
covers-test c cs true x y p q = p refl
covers-test c cs false x y p q = q refl

covers-stop : (c : ℕ) (cs : List ℕ) → Covers c cs Stop
covers-stop c cs = record { is = tt }

comment_covers : (o : ℕ) (cs : List ℕ) (at : ℕ) → Covers '/ cs (comment_turn o cs at)
unfolding comment_turn
comment_covers o [] at = covers-stop '/ []
comment_covers o (c ∷ cs) at =
    covers-test '/ (c ∷ cs) (eqb c '/) _ _ (λ q. rw (eqb-true c '/ q) (line-covers cs at (line_skip ('/ ∷ cs) at) refl))
    (λ _. covers-test '/ (c ∷ cs) (eqb c '*) _ _ (λ q. rw (eqb-true c '* q) (block_covers cs (at + width_of '*) o (comment_end cs (at + width_of '*)) refl))
    (λ _. covers-stop '/ (c ∷ cs)))

white_covers : (c : ℕ) (cs : List ℕ) (next : ℕ) → eqb c '/ ≡ false → is_whitespace c ≡ true → Covers c cs (Pass next 0 0)
white_covers c cs next q w = record { is = λ xs rest d g h. rw (q, deeper_of_none d) (white {xs = xs} c w h) }

turn-covers : (b c : ℕ) (cs : List ℕ) (at next : ℕ) → Covers c cs (gap_turn b c cs at next)
unfolding gap_turn
turn-covers b c cs at next =
    covers-test c cs (eqb c '/) _ _ (λ q. rw (eqb-true c '/ q) (comment_covers at cs next))
    (λ q. covers-test c cs (is_whitespace c) _ _ (white_covers c cs next q) (λ _. covers-stop c cs))

-- ---- the gap: k characters passed unseen, and then some that are blank, with the depth d
record Passed (k n m : ℕ) (cs : List ℕ) (d : ℕ) : Type 0 where
  by : ℕ
  counted : m ≡ n + k + by
  layers : Layers (drop by (drop k cs)) (take by (drop k cs)) d

passed_none : (m n : ℕ) (cs : List ℕ) → n ≡ m → Passed 0 n m cs 0
passed_none m n cs e = record { by = 0; counted = omega arith; layers = nothing }

cover_then : (c : ℕ) (cs : List ℕ) (p m b j d : ℕ) → CoversIn c cs (Pass p m b) → Layers (drop j (drop m cs)) (take j (drop m cs)) d
    → Layers (drop (m + j) cs) (c ∷ take (m + j) cs) (deeper (cover_depth c cs) d)
cover_then c cs p m b j d f h =
    rw (take-add m j cs, ← (drop-drop j m cs)) (f (take j (drop m cs)) (drop j (drop m cs)) d (rw (take-append-drop j (drop m cs))) h)

walk_layers : (p m k : ℕ) (cs : List ℕ) (b at n : ℕ) → k ≤ length cs → walk_from gap_turn gap_last k cs b at n ≡ Ok (p, m)
    → Passed k n m cs (depth_from gap_turn k cs b at 0)
unfolding walk_from depth_from
walk_layers p m zero [] b at n l e = passed_none m n [] (same_ok _ _ _ _ e).1
walk_layers p m (suc k) [] b at n l e = absurd (omega arith)
walk_layers p m (suc k) (c ∷ cs) b at n l e =
    let h = walk_layers p m k cs b (at + width_of c) (n + 1) (omega arith) e in
    let y = h.counted in
    record { by = h.by; counted = omega arith; layers = h.layers }
walk_layers p m zero (c ∷ cs) b at n l e =
    go (gap_turn b c cs at (at + width_of c)) refl (gap_good b c cs at (at + width_of c)) (turn-covers b c cs at (at + width_of c))
    (λ j b'. walk_layers p m j cs b' (at + width_of c) (n + 1))
  where
    go : (t : Turn) → gap_turn b c cs at (at + width_of c) ≡ t → Good cs (at + width_of c) (gap_turn b c cs at (at + width_of c)) → Covers c cs (gap_turn b c cs at (at + width_of c))
        → ((j b' : ℕ) → j ≤ length cs → walk_from gap_turn gap_last j cs b' (at + width_of c) (n + 1) ≡ Ok (p, m)
        → Passed j (n + 1) m cs (depth_from gap_turn j cs b' (at + width_of c) 0))
        → Passed 0 n m (c ∷ cs) (depth_from gap_turn 0 (c ∷ cs) b at 0)
    go Stop q g v f =
        let u : Ok (at, n) ≡ Ok (p, m) = rw (q, walk_from) at e in
        rw (depth_stops gap_turn c cs b at q) (passed_none m n (c ∷ cs) (same_ok _ _ _ _ u).1)
    go (Fail r x i) q g v f =
        let u : Err (r, x, n + 1 + i) ≡ Ok (p, m) = rw (q, walk_from) at e in
        let w : ◌≡◌ {A = ℕ} 0 1 = cc in
        absurd (omega arith)
    go (Pass x i b') q g v f =
        let far : Far cs (at + width_of c) i x = (rw q at g).is in
        let h = f i b' far.within (rw (q, walk_from) at e) in
        let y = h.counted in
        let z = cover_then c cs x i b' h.by (depth_from gap_turn i cs b' (at + width_of c) 0) (rw q at v).is h.layers in
        rw (depth-covers gap_turn c cs b at x i b' q) (record { by = suc (i + h.by); counted = omega arith; layers = z })

-- ---- THE THEOREM OF A GAP. What its reader passes has the depth that it answers.
pub gap_layers : (cs : List ℕ) (at p m : ℕ) → gap cs at ≡ Ok (p, m) → Layers (drop m cs) (take m cs) (walk_depth gap_turn cs at)
unfolding gap
gap_layers cs at p m e =
    let h = walk_layers p m 0 cs 0 at 0 (omega arith) e in
    let y = h.counted in
    let z : h.by ≡ m = omega arith in
    rw z at h.layers
