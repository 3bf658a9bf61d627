-- A walk, turn by turn: what a loop over it cites.
use Prim.Native.Nat.{◌+◌, ◌≤◌, suc, zero, ℕ}
use Rattle.std.proofs.Common.{le_of_suc-le-suc, ◌∙◌, sym, Ok, Err}
use native.Mathlib.Omega.{arith}
use mathlib.Core.List.{List, [], ◌∷◌}
use Rattle.std.specs.Prelude.{◌≡◌, drop, length}
use Rattle.std.proofs.Math.Path.{ap}
use Rattle.utf8.specs.Laws.{Ended, Seen}
use Rattle.utf8.specs.Utf8.{width_of}
use Rattle.record.specs.declared.Refusal.{Refusal}
use Rattle.scan.specs.Far.{Lands, after}
use Rattle.scan.specs.Until.{left}
use Rattle.scan.specs.Walk.{walk_from}
use Rattle.scan.specs.Shapes.{Skip}
use Rattle.scan.specs.declared.Turn.{Turn}
use Rattle.scan.specs.declared.Turn.TheVariants.{Fail, Pass, Stop}

-- a walk, turn by turn
module _ (see : ℕ → ℕ → List ℕ → ℕ → ℕ → Turn) (last : ℕ → ℕ → ℕ → Skip) where
  walk-skip : (k : ℕ) (cs : List ℕ) (b at n : ℕ) → k ≤ length cs → walk_from see last k cs b at n ≡ walk_from see last 0 (drop k cs) b (after k cs at) (n + k)
  unfolding walk_from after
  walk-skip zero cs b at n h = let q : n ≡ n + 0 = omega arith in ap (walk_from see last 0 cs b at) q
  walk-skip (suc k) [] b at n h = absurd (omega arith)
  walk-skip (suc k) (c ∷ cs) b at n h =
      let q : n + 1 + k ≡ n + suc k = omega arith in
      walk-skip k cs b (at + width_of c) (n + 1) (le_of_suc-le-suc h) ∙ ap (walk_from see last 0 (drop k cs) b (after k cs (at + width_of c))) q

  module _ {s : List ℕ} {at k w : ℕ} (h : Seen s at k w) (b n : ℕ) where
    own : (r : Turn) → see b k (left s (at + w)) at (at + w) ≡ r → see b k (left s (at + w)) at (at + width_of k) ≡ r
    own r e = ap (λ (v : ℕ). see b k (left s (at + w)) at (at + v)) (sym h.width) ∙ e

    pub walk-stop : see b k (left s (at + w)) at (at + w) ≡ Stop → walk_from see last 0 (left s at) b at n ≡ Ok (at, n)
    unfolding walk_from
    walk-stop e = rw h.next (rw (own Stop e, walk_from))

    pub walk-fail : {r : Refusal} {p m : ℕ} → see b k (left s (at + w)) at (at + w) ≡ Fail r p m → walk_from see last 0 (left s at) b at n ≡ Err (r, p, n + 1 + m)
    unfolding walk_from
    walk-fail {r} {p} {m} e = rw h.next (rw (own (Fail r p m) e, walk_from))

    pub walk_pass : {p m b' : ℕ} → see b k (left s (at + w)) at (at + w) ≡ Pass p m b' → Lands s (at + w) m p
        → walk_from see last 0 (left s at) b at n ≡ walk_from see last 0 (left s p) b' p (n + 1 + m)
    unfolding walk_from
    walk_pass {p} {m} {b'} e l =
        let g : walk_from see last m (left s (at + w)) b' (at + w) (n + 1) ≡ walk_from see last 0 (left s p) b' p (n + 1 + m) =
        walk-skip m (left s (at + w)) b' (at + w) (n + 1) l.within ∙ rw (l.rest, ← l.there) in
        rw h.next (rw (own (Pass p m b') e, walk_from) (rw (← h.width) g))

  pub walk_end : {s : List ℕ} {at : ℕ} → Ended s at → (b n : ℕ) → walk_from see last 0 (left s at) b at n ≡ last b at n
  unfolding walk_from
  walk_end e b n = rw e.none
