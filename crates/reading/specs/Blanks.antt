-- Whatever the gap's reader passes is blank: its comments. The gap itself is in proofs/Blanks.antt.
use Prim.Native.Nat.{◌+◌, ◌-◌, ◌<◌, suc, zero, ℕ}
use Rattle.std.proofs.Common.{arith, take-append-drop, drop-drop, take-add, eqb-true, ltb-false, ltb-true, Ok, Err}
use Rattle.std.specs.Prelude.{Bool, cond, false, true, List, [], ◌++◌, ◌∷◌, eqb, ltb, drop, take}
use Rattle.std.proofs.Math.Path.{◌≡◌, refl}
use Rattle.utf8.specs.Utf8.{width_of}
use Rattle.record.specs.declared.Code.TheVariants.{UnterminatedBlockComment}
use Rattle.scan.specs.Far.{until-before}
use Rattle.scan.specs.IfNext.{if_next}
use Rattle.scan.specs.Readers.{com_done, com_step, comment_end, depth_of}
use Rattle.scan.specs.Seek.{line_skip, seek_done, seek_step, skip_more, through, up_to}
use Rattle.scan.specs.Until.{until}
use Rattle.scan.specs.Walk.{turn_of}
use Rattle.scan.specs.declared.Com.{Com}
use Rattle.scan.specs.declared.Com.TheVariants.{Complete, Open, Slash, Star}
use Rattle.scan.specs.Shapes.{Found, same_ok}
use Rattle.scan.specs.Shapes.{Skip}
use Rattle.scan.specs.declared.Sought.TheVariants.{Newline}
use Rattle.scan.specs.declared.Turn.{Turn}
use Rattle.scan.specs.declared.Turn.TheVariants.{Fail, Pass, Stop}
use Rattle.reading.specs.Blank.{Blank, Comment, block, closes, ends, is_mark, line, line_over, nothing, one_line, opens, passes}
use Rattle.reading.specs.Gaps.{comment_turn}

-- ---- a nested comment: what the reader's state has still to read, its own last character included where it may start a mark
abbrev Rest : Com → List ℕ → Type 0
Rest (Open d) l = Comment d l
Rest (Slash d) l = Comment d (47 ∷ l)
Rest (Star d) l = Comment d (42 ∷ l)
Rest Complete l = Unit {0}

module _ (d c : ℕ) (l : List ℕ) where
  -- neither a star nor a slash
  other : eqb c 42 ≡ false → eqb c 47 ≡ false → Comment d l → Comment d (c ∷ l)
  unfolding is_mark
  other q r h = passes {d = d} {xs = l} c (rw (q, r)) h

  -- a slash, and then no star
  after_slash : eqb c 42 ≡ false → Comment d (c ∷ l) → Comment d (47 ∷ c ∷ l)
  unfolding is_mark if_next
  after_slash q h = passes {d = d} {xs = c ∷ l} 47 (rw q) h

  -- a star, and then no slash
  after_star : eqb c 47 ≡ false → Comment d (c ∷ l) → Comment d (42 ∷ c ∷ l)
  unfolding is_mark if_next
  after_star q h = passes {d = d} {xs = c ∷ l} 42 (rw q) h

  two_stars : Comment d (42 ∷ l) → Comment d (42 ∷ 42 ∷ l)
  unfolding is_mark if_next
  two_stars h = passes {d = d} {xs = 42 ∷ l} 42 refl h

  open_back : (t u : Bool) → eqb c 42 ≡ t → eqb c 47 ≡ u → Rest (cond t (Star d) (cond u (Slash d) (Open d))) l → Comment d (c ∷ l)
  open_back true u q r h = rw (eqb-true c 42 q) h
  open_back false true q r h = rw (eqb-true c 47 r) h
  open_back false false q r h = other q r h

  slash_back : (t u : Bool) → eqb c 42 ≡ t → eqb c 47 ≡ u → Rest (cond t (Open (d + 1)) (cond u (Slash d) (Open d))) l → Comment d (47 ∷ c ∷ l)
  slash_back true u q r h = let e : d + 1 ≡ suc d = omega arith in rw (eqb-true c 42 q) (opens (rw e at h))
  slash_back false true q r h = after_slash q (rw (eqb-true c 47 r) h)
  slash_back false false q r h = after_slash q (other q r h)

  star_back : (t u b : Bool) → eqb c 42 ≡ t → eqb c 47 ≡ u → ltb d 2 ≡ b → com_done (cond t (Star d) (cond u (cond b Complete (Open (d - 1))) (Open d))) ≡ false
      → Rest (cond t (Star d) (cond u (cond b Complete (Open (d - 1))) (Open d))) l → Comment d (42 ∷ c ∷ l)
  star_back true u b q r z f h = rw (eqb-true c 42 q) (two_stars h)
  star_back false true true q r z f h = let w : ◌≡◌ {A = ℕ} 0 1 = cc in absurd (omega arith)
  star_back false true false q r z f h =
      let n = ltb-false d 2 z in
      let e : d ≡ suc (suc (d - 2)) = omega arith in
      let g : d - 1 ≡ suc (d - 2) = omega arith in
      let h' : Comment (suc (d - 2)) l = rw g at h in
      rw (eqb-true c 47 r, e) (closes h')
  star_back false false b q r z f h = after_star r (other q r h)

  -- the last character
  star_last : (t u b : Bool) → eqb c 42 ≡ t → eqb c 47 ≡ u → ltb d 2 ≡ b → 0 < d → com_done (cond t (Star d) (cond u (cond b Complete (Open (d - 1))) (Open d))) ≡ true
      → Comment d (42 ∷ c ∷ [])
  star_last true u b q r z p f = let w : ◌≡◌ {A = ℕ} 0 1 = cc in absurd (omega arith)
  star_last false true true q r z p f = let n = ltb-true d 2 z in let e : d ≡ 1 = omega arith in rw (eqb-true c 47 r, e) ends
  star_last false true false q r z p f = let w : ◌≡◌ {A = ℕ} 0 1 = cc in absurd (omega arith)
  star_last false false b q r z p f = let w : ◌≡◌ {A = ℕ} 0 1 = cc in absurd (omega arith)

  open_runs : (t u : Bool) {A : Type 0} → com_done (cond t (Star d) (cond u (Slash d) (Open d))) ≡ true → A
  open_runs true u f = let w : ◌≡◌ {A = ℕ} 0 1 = cc in absurd (omega arith)
  open_runs false true f = let w : ◌≡◌ {A = ℕ} 0 1 = cc in absurd (omega arith)
  open_runs false false f = let w : ◌≡◌ {A = ℕ} 0 1 = cc in absurd (omega arith)

  slash_runs : (t u : Bool) {A : Type 0} → com_done (cond t (Open (d + 1)) (cond u (Slash d) (Open d))) ≡ true → A
  slash_runs true u f = let w : ◌≡◌ {A = ℕ} 0 1 = cc in absurd (omega arith)
  slash_runs false true f = let w : ◌≡◌ {A = ℕ} 0 1 = cc in absurd (omega arith)
  slash_runs false false f = let w : ◌≡◌ {A = ℕ} 0 1 = cc in absurd (omega arith)

  star_deep : (t u b : Bool) → ltb d 2 ≡ b → 0 < d → com_done (cond t (Star d) (cond u (cond b Complete (Open (d - 1))) (Open d))) ≡ false
      → 0 < depth_of (cond t (Star d) (cond u (cond b Complete (Open (d - 1))) (Open d)))
  star_deep true u b z p f = p
  star_deep false true true z p f = let w : ◌≡◌ {A = ℕ} 0 1 = cc in absurd (omega arith)
  star_deep false true false z p f = let n = ltb-false d 2 z in omega arith
  star_deep false false b z p f = p

  open_deep : (t u : Bool) → 0 < d → 0 < depth_of (cond t (Star d) (cond u (Slash d) (Open d)))
  open_deep true u p = p
  open_deep false true p = p
  open_deep false false p = p

  slash_deep : (t u : Bool) → 0 < d → 0 < depth_of (cond t (Open (d + 1)) (cond u (Slash d) (Open d)))
  slash_deep true u p = omega arith
  slash_deep false true p = p
  slash_deep false false p = p

step_back : (st : Com) (c : ℕ) (l : List ℕ) → com_done (com_step st c) ≡ false → Rest (com_step st c) l → Rest st (c ∷ l)
step_back (Open d) c l f h = open_back d c l (eqb c 42) (eqb c 47) refl refl h
step_back (Slash d) c l f h = slash_back d c l (eqb c 42) (eqb c 47) refl refl h
step_back (Star d) c l f h = star_back d c l (eqb c 42) (eqb c 47) (ltb d 2) refl refl refl f h
step_back Complete c l f h = tt

step-last : (st : Com) (c : ℕ) → 0 < depth_of st → com_done (com_step st c) ≡ true → Rest st (c ∷ [])
step-last (Open d) c p f = open_runs d c [] (eqb c 42) (eqb c 47) f
step-last (Slash d) c p f = slash_runs d c [] (eqb c 42) (eqb c 47) f
step-last (Star d) c p f = star_last d c [] (eqb c 42) (eqb c 47) (ltb d 2) refl refl refl p f
step-last Complete c p f = tt

step-deep : (st : Com) (c : ℕ) → 0 < depth_of st → com_done (com_step st c) ≡ false → 0 < depth_of (com_step st c)
step-deep (Open d) c p f = open_deep d c [] (eqb c 42) (eqb c 47) p
step-deep (Slash d) c p f = slash_deep d c [] (eqb c 42) (eqb c 47) p
step-deep (Star d) c p f = star_deep d c [] (eqb c 42) (eqb c 47) (ltb d 2) refl p f
step-deep Complete c p f = absurd (omega arith)

-- k characters before the one that ends it
comment_from : (p m : ℕ) (cs : List ℕ) (st : Com) (at n k : ℕ) → 0 < depth_of st → m ≡ n + k → until com_step com_done st cs at n ≡ Ok (p, m) → Rest st (take (suc k) cs)
unfolding until
comment_from p m [] st at n k d j e = let w : ◌≡◌ {A = ℕ} 0 1 = cc in absurd (omega arith)
comment_from p m (c ∷ cs) st at n k d j e = go k j (com_done (com_step st c)) refl (comment_from p m cs (com_step st c) (at + width_of c) (n + 1))
  where
    go : (k : ℕ) → m ≡ n + k → (b : Bool) → com_done (com_step st c) ≡ b
        → ((k : ℕ) → 0 < depth_of (com_step st c) → m ≡ n + 1 + k → until com_step com_done (com_step st c) cs (at + width_of c) (n + 1) ≡ Ok (p, m) → Rest (com_step st c) (take (suc k) cs))
        → Rest st (take (suc k) (c ∷ cs))
    go zero j true q f = step-last st c d q
    go (suc k) j true q f =
        let u : Ok (at, n) ≡ Ok (p, m) = rw (q, until) at e in
        let y : n ≡ m = (same_ok _ _ _ _ u).1 in
        absurd (omega arith)
    go zero j false q f =
        let u : until com_step com_done (com_step st c) cs (at + width_of c) (n + 1) ≡ Ok (p, m) = rw (q, until) at e in
        let z = until-before com_step com_done p m cs (com_step st c) (at + width_of c) (n + 1) u in
        absurd (omega (arith, z.more))
    go (suc k) j false q f =
        step_back st c (take (suc k) cs) q (f k (step-deep st c d q) (omega arith) (rw (q, until) at e))

pub comment_blank : (cs : List ℕ) (at p m : ℕ) → comment_end cs at ≡ Ok (p, m) → Comment 1 (take (suc m) cs)
comment_blank cs at p m e = comment_from p m cs (Open 1) at 0 m (omega arith) (omega arith) e

-- ---- the rest of a line
pub record Line (n m : ℕ) (cs : List ℕ) : Type 0 where
  pub passed : ℕ
  pub counted : m ≡ n + passed
  pub one : one_line (take passed cs) ≡ true
  pub over : line_over (drop passed cs) ≡ true

pub line-from : (p m : ℕ) (cs : List ℕ) (st : Bool) (at n : ℕ) → up_to (until (seek_step Newline) seek_done st cs at n) ≡ Ok (p, m) → Line n m cs
unfolding until one_line line_over
line-from p m [] st at n e = let y : n ≡ m = (same_ok _ _ _ _ e).1 in record { passed = 0; counted = omega arith; one = refl; over = refl }
line-from p m (c ∷ cs) st at n e = go (eqb c 10) refl (line-from p m cs (eqb c 10) (at + width_of c) (n + 1))
  where
    go : (b : Bool) → eqb c 10 ≡ b → (up_to (until (seek_step Newline) seek_done (eqb c 10) cs (at + width_of c) (n + 1)) ≡ Ok (p, m) → Line (n + 1) m cs) → Line n m (c ∷ cs)
    go true q f =
        let u : Ok (at, n) ≡ Ok (p, m) = rw (q, until) at e in
        let y : n ≡ m = (same_ok _ _ _ _ u).1 in
        record { passed = 0; counted = omega arith; one = refl; over = q }
    go false q f =
        let h = f (rw (q, until) at e) in
        let y = h.counted in
        record { passed = suc h.passed; counted = omega arith; one = rw q h.one; over = h.over }

-- ---- a turn of the gap: its character c, and what it covers of the characters cs after it, before what is blank
abbrev CoversIn : ℕ → List ℕ → Turn → Type 0
CoversIn c cs Stop = Unit {0}
CoversIn c cs (Fail r p m) = Unit {0}
CoversIn c cs (Pass p m b) = (xs rest : List ℕ) → drop m cs ≡ xs ++ rest → Blank rest xs → Blank rest (c ∷ take m cs ++ xs)

pub record Covers (c : ℕ) (cs : List ℕ) (x : Turn) : Type 0 where
  pub is : CoversIn c cs x

module _ (cs : List ℕ) (at : ℕ) where
  -- the second slash is no newline
  line-slashes : (p m : ℕ) → line_skip (47 ∷ cs) at ≡ Ok (p, m) → (k : ℕ) → m ≡ k → one_line (take k (47 ∷ cs)) ≡ true → line_over (drop k (47 ∷ cs)) ≡ true
      → (xs rest : List ℕ) → drop m (47 ∷ cs) ≡ xs ++ rest → Blank rest xs → Blank rest (47 ∷ take m (47 ∷ cs) ++ xs)
  unfolding one_line line_over
  line-slashes p m e zero y a b xs rest d h = let w : ◌≡◌ {A = ℕ} 0 1 = cc in absurd (omega arith)
  line-slashes p m e (suc k) y a b xs rest d h = rw y (line {xs = xs} (take k cs) a (rw (← d, y) b) h)

  line-covers : (x : Skip) → line_skip (47 ∷ cs) at ≡ x → Covers 47 (47 ∷ cs) (turn_of 0 x)
  line-covers (Ok (p, m)) e =
      let l = line-from p m (47 ∷ cs) false at 0 e in
      let y = l.counted in
      record { is = line-slashes p m e l.passed (omega arith) l.one l.over }
  line-covers (Err (r, p, m)) e = record { is = tt }

  block_covers : (o : ℕ) (f : Found) → comment_end cs at ≡ f → Covers 47 (42 ∷ cs) (turn_of 0 (skip_more 1 (through UnterminatedBlockComment o f)))
  block_covers o (Ok (p, m)) e = record {
    is = λ xs rest d h.
        let z : 1 + (m + 1) ≡ suc (suc m) = omega arith in
        rw z (block (take (suc m) cs) (comment_blank cs at p m e) h);
  }
  block_covers o (Err (p, m)) e = record { is = tt }

pub covers-test : (c : ℕ) (cs : List ℕ) (t : Bool) (x y : Turn) → (t ≡ true → Covers c cs x) → (t ≡ false → Covers c cs y) → Covers c cs (cond t x y)
covers-test c cs true x y p q = p refl
covers-test c cs false x y p q = q refl

pub covers-stop : (c : ℕ) (cs : List ℕ) → Covers c cs Stop
covers-stop c cs = record { is = tt }

pub comment_covers : (o : ℕ) (cs : List ℕ) (at : ℕ) → Covers 47 cs (comment_turn o cs at)
unfolding comment_turn
comment_covers o [] at = covers-stop 47 []
comment_covers o (c ∷ cs) at =
    covers-test 47 (c ∷ cs) (eqb c 47) _ _ (λ q. rw (eqb-true c 47 q) (line-covers cs at (line_skip (47 ∷ cs) at) refl))
    (λ _. covers-test 47 (c ∷ cs) (eqb c 42) _ _ (λ q. rw (eqb-true c 42 q) (block_covers cs (at + width_of 42) o (comment_end cs (at + width_of 42)) refl))
    (λ _. covers-stop 47 (c ∷ cs)))

-- ---- the gap: k characters passed unseen, and then j that are blank
pub record Passed (k n m : ℕ) (cs : List ℕ) : Type 0 where
  pub by : ℕ
  pub counted : m ≡ n + k + by
  pub blank : Blank (drop by (drop k cs)) (take by (drop k cs))

pub passed_none : (m n : ℕ) (cs : List ℕ) → n ≡ m → Passed 0 n m cs
passed_none m n cs e = record { by = 0; counted = omega arith; blank = nothing }

pub cover_then : (c : ℕ) (cs : List ℕ) (p m b j : ℕ) → CoversIn c cs (Pass p m b) → Blank (drop j (drop m cs)) (take j (drop m cs))
    → Blank (drop (m + j) cs) (c ∷ take (m + j) cs)
cover_then c cs p m b j f h =
    rw (take-add m j cs, ← (drop-drop j m cs)) (f (take j (drop m cs)) (drop j (drop m cs)) (rw (take-append-drop j (drop m cs))) h)
