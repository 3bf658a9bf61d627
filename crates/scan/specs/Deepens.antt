-- How deep a comment goes, character by character, and a walk, turn by turn: what a loop over them cites.
use Prim.Native.Nat.{◌+◌, ◌-◌, ◌≤◌, suc, zero, ℕ}
use Rattle.std.proofs.Common.{le_of_suc-le-suc, arith, ◌∙◌, ltb-false, ltb-true, ne_eqb}
use Rattle.std.specs.Prelude.{Bool, cond, ◌≡◌, eqb, ltb, drop, get_or, length}
use Rattle.std.proofs.Math.Bool.{false, true}
use mathlib.Core.List.{List, [], ◌∷◌}
use Rattle.std.proofs.Math.Path.{ap, refl, sym}
use Rattle.utf8.specs.Chars.{'*, '/}
use Rattle.utf8.specs.Laws.{Ended, Seen}
use Rattle.utf8.specs.Picks.{by_test}
use Rattle.utf8.specs.Utf8.{width_of}
use Rattle.record.specs.declared.Refusal.{Refusal}
use Rattle.scan.specs.Depth.{comment_depth, cover_depth, deeper, deepest, depth_from, slash_depth}
use Rattle.scan.specs.Far.{Lands, after}
use Rattle.scan.specs.Readers.{com_done, com_step, depth_of}
use Rattle.scan.specs.Runs.{byte_seen, comment_stays, plain-low, plain_stop, run, run-over}
use Rattle.scan.specs.Until.{left, until, until-on}
use Rattle.scan.specs.declared.Com.{Com}
use Rattle.scan.specs.declared.Com.TheVariants.{Complete, Open, Slash, Star}
use Rattle.scan.specs.declared.Turn.{Turn}
use Rattle.scan.specs.declared.Turn.TheVariants.{Fail, Pass, Stop}

-- ---- the greater of two
module _ (a b : ℕ) where
  pub left_below : a ≤ deeper a b
  left_below = by_test (λ (x : ℕ). a ≤ x) (ltb a b) b a (λ t. let h = ltb-true a b t in omega arith) (λ _. omega arith)

  pub right_below : b ≤ deeper a b
  right_below = by_test (λ (x : ℕ). b ≤ x) (ltb a b) b a (λ _. omega arith) (λ t. let h = ltb-false a b t in omega arith)

  pub least : (z : ℕ) → a ≤ z → b ≤ z → deeper a b ≤ z
  least z p q = by_test (λ (x : ℕ). x ≤ z) (ltb a b) b a (λ _. q) (λ _. p)

  pub deeper-right : a ≤ b → deeper a b ≡ b
  deeper-right h = let p = right_below in let q = least b h (omega arith) in omega arith

  pub deeper-left : b ≤ a → deeper a b ≡ a
  deeper-left h = let p = left_below in let q = least a (omega arith) h in omega arith

pub deeper-none : (d : ℕ) → deeper d 0 ≡ d
deeper-none d = deeper-left d 0 (omega arith)

pub deeper_of_none : (d : ℕ) → deeper 0 d ≡ d
deeper_of_none d = deeper-right 0 d (omega arith)

-- of two, whichever comes first
pub deeper-turned : (a b : ℕ) → deeper a b ≡ deeper b a
deeper-turned a b =
    let p = least a b (deeper b a) (right_below b a) (left_below b a) in
    let q = least b a (deeper a b) (right_below a b) (left_below a b) in
    omega arith

-- of three, however they are taken together
pub deeper_three : (a b c : ℕ) → deeper (deeper a b) c ≡ deeper a (deeper b c)
deeper_three a b c =
    let p = left_below a b in
    let q = right_below a b in
    let r = left_below b c in
    let s = right_below b c in
    let t = left_below (deeper a b) c in
    let u = right_below (deeper a b) c in
    let v = left_below a (deeper b c) in
    let w = right_below a (deeper b c) in
    let x = least (deeper a b) c (deeper a (deeper b c)) (least a b (deeper a (deeper b c)) v (omega arith)) (omega arith) in
    let y = least a (deeper b c) (deeper (deeper a b) c) (omega arith) (least b c (deeper (deeper a b) c) (omega arith) u) in
    omega arith

-- the middle one, if the last is no less
pub deeper-skip : (a b c : ℕ) → b ≤ c → deeper (deeper a b) c ≡ deeper a c
deeper-skip a b c h = deeper_three a b c ∙ ap (deeper a) (deeper-right b c h)

-- ---- a comment's reader, from what the code knows: the step's state st', and whether it is the end, e
module _ {s : List ℕ} {at k w : ℕ} (h : Seen s at k w) (st : Com) {st' : Com} (p : st' ≡ com_step st k) {e : Bool} (q : e ≡ com_done st') (m : ℕ) where
  pub deepest-on : e ≡ false → deepest st (left s at) m ≡ deepest st' (left s (at + w)) (deeper m (depth_of st'))
  unfolding deepest
  deepest-on z = let f : com_done (com_step st k) ≡ false = ap com_done (sym p) ∙ sym q ∙ z in rw h.next (rw (f, deepest) (rw p))

  pub deepest-at : e ≡ true → deepest st (left s at) m ≡ m
  unfolding deepest
  deepest-at z = let f : com_done (com_step st k) ≡ true = ap com_done (sym p) ∙ sym q ∙ z in rw h.next (rw (f, deepest))

pub deepest-end : {s : List ℕ} {at : ℕ} → Ended s at → (st : Com) (m : ℕ) → deepest st (left s at) m ≡ m
unfolding deepest
deepest-end e st m = rw e.none

-- where the reader gets to by bytes that start no mark, unless the character before may have started one
abbrev pub com_run : List ℕ → ℕ → Com → ℕ
com_run s at (Open d) = at + run (plain_stop '* '/) (drop at s)
com_run s at (Slash d) = at
com_run s at (Star d) = at
com_run s at Complete = at

-- there it answers what it does here, and has gone no deeper
module _ (s : List ℕ) (at to : ℕ) where
  abbrev Same : Com → Type 0
  Same st =
      (at ≤ to) × ((n : ℕ) → until com_step com_done st (left s to) to (n + (to - at)) ≡ until com_step com_done st (left s at) at n)
      × ((m : ℕ) → depth_of st ≤ m → deepest st (left s to) m ≡ deepest st (left s at) m)

  stays : (st : Com) → to ≡ at → Same st
  stays st e = rw e (omega arith, λ n. let z : n + (at - at) ≡ n = omega arith in rw z, λ m h. refl)

  pub com_run_lem : (st : Com) → to ≡ com_run s at st → Same st
  com_run_lem (Open d) e = (
    omega arith,
    λ n. run-over s (plain_stop '* '/) (λ (p k : ℕ). until com_step com_done (Open d) (left s p) p k)
        (λ p k h z. until-on com_step com_done (byte_seen s p h (plain-low '* '/ _ z)) (comment_stays d (get_or s p 0) z) refl k refl) at to n e,
    λ m l. run-over s (plain_stop '* '/) (λ (p k : ℕ). deepest (Open d) (left s p) m)
        (λ p k h z. deepest-on (byte_seen s p h (plain-low '* '/ _ z)) (Open d) (comment_stays d (get_or s p 0) z) refl m refl ∙ ap (deepest (Open d) (left s (p + 1))) (deeper-left m d l)) at to 0 e,
  )
  com_run_lem (Slash d) e = stays (Slash d) e
  com_run_lem (Star d) e = stays (Star d) e
  com_run_lem Complete e = stays Complete e

-- a character that is no slash starts nothing
pub cover_none : (c : ℕ) (cs : List ℕ) → (c ≡ '/ → ⊥) → cover_depth c cs ≡ 0
cover_none c cs n = rw (ne_eqb c '/ n)

-- after a slash, by the code's own sight of what follows it
module _ {s : List ℕ} {at : ℕ} where
  pub slash_deep : {k w : ℕ} → Seen s at k w → slash_depth (left s at) ≡ cond (eqb k '*) (comment_depth (left s (at + w))) 0
  unfolding slash_depth
  slash_deep h = rw h.next

  pub slash_flat : Ended s at → slash_depth (left s at) ≡ 0
  unfolding slash_depth
  slash_flat e = rw e.none

-- a walk, turn by turn
module _ (see : ℕ → ℕ → List ℕ → ℕ → ℕ → Turn) where
  depth-skip : (k : ℕ) (cs : List ℕ) (b at d : ℕ) → k ≤ length cs → depth_from see k cs b at d ≡ depth_from see 0 (drop k cs) b (after k cs at) d
  unfolding depth_from after
  depth-skip zero cs b at d h = refl
  depth-skip (suc k) [] b at d h = absurd (omega arith)
  depth-skip (suc k) (c ∷ cs) b at d h = depth-skip k cs b (at + width_of c) d (le_of_suc-le-suc h)

  module _ {s : List ℕ} {at k w : ℕ} (h : Seen s at k w) (b d : ℕ) where
    own : (r : Turn) → see b k (left s (at + w)) at (at + w) ≡ r → see b k (left s (at + w)) at (at + width_of k) ≡ r
    own r e = ap (λ (v : ℕ). see b k (left s (at + w)) at (at + v)) (sym h.width) ∙ e

    pub depth-stop : see b k (left s (at + w)) at (at + w) ≡ Stop → depth_from see 0 (left s at) b at d ≡ d
    unfolding depth_from
    depth-stop e = rw h.next (rw (own Stop e, depth_from))

    pub depth-fail : {r : Refusal} {p m : ℕ} → see b k (left s (at + w)) at (at + w) ≡ Fail r p m → depth_from see 0 (left s at) b at d ≡ d
    unfolding depth_from
    depth-fail {r} {p} {m} e = rw h.next (rw (own (Fail r p m) e, depth_from))

    pub depth_pass : {p m b' : ℕ} → see b k (left s (at + w)) at (at + w) ≡ Pass p m b' → Lands s (at + w) m p
        → depth_from see 0 (left s at) b at d ≡ depth_from see 0 (left s p) b' p (deeper d (cover_depth k (left s (at + w))))
    unfolding depth_from
    depth_pass {p} {m} {b'} e l =
        let x = deeper d (cover_depth k (left s (at + w))) in
        let g : depth_from see m (left s (at + w)) b' (at + w) x ≡ depth_from see 0 (left s p) b' p x =
        depth-skip m (left s (at + w)) b' (at + w) x l.within ∙ rw (l.rest, ← l.there) in
        rw h.next (rw (own (Pass p m b') e, depth_from) (rw (← h.width) g))

    -- a character that passes itself alone, and is no slash
    pub depth-calm : see b k (left s (at + w)) at (at + w) ≡ Pass (at + w) 0 b → Lands s (at + w) 0 (at + w) → (k ≡ '/ → ⊥)
        → depth_from see 0 (left s at) b at d ≡ depth_from see 0 (left s (at + w)) b (at + w) d
    depth-calm e l n =
        depth_pass e l ∙ ap (depth_from see 0 (left s (at + w)) b (at + w)) (ap (deeper d) (cover_none k (left s (at + w)) n) ∙ deeper-none d)

  pub depth-end : {s : List ℕ} {at : ℕ} → Ended s at → (b d : ℕ) → depth_from see 0 (left s at) b at d ≡ d
  unfolding depth_from
  depth-end e b d = rw e.none
