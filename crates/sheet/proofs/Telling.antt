-- The loop over a gap: what holds at each place that it comes to, from turn to turn, and what it answers.
use Rattle.std.specs.Prelude.{Ok, Err}
use Prim.Native.Nat.{◌+◌, ◌-◌, ◌<◌, suc, zero, ℕ}
use native.Mathlib.Omega.{arith}
use mathlib.Core.Bool.{Bool, false, not, true}
use mathlib.Core.List.{List, ◌∷◌}
use mathlib.Core.Path.{◌∙◌, ◌≡◌, ap, refl, sym}
use lib.Dec.{leb}
use lib.ListN.{drop, get_or, length, take}
use lib.Seq.{length-take-le}
use borrow.Author.Tests.{leb-false, ne_eqb, not-false}
use Rattle.utf8.specs.Laws.{Seen}
use Rattle.unicode_xid.specs.Whitespace.{is_whitespace}
use Rattle.record.specs.declared.Refusal.{Refusal}
use Rattle.scan.specs.Deepens.{cover_none, deeper-none, depth_pass}
use Rattle.scan.specs.Depth.{cover_depth, deeper, depth_from}
use Rattle.scan.specs.Far.{Far, Lands, lands}
use Rattle.scan.specs.Runs.{byte_seen, neither, run, run-over}
use Rattle.scan.specs.Turns.{walk_pass}
use Rattle.scan.specs.Until.{left}
use Rattle.scan.specs.Walk.{walk_from}
use Rattle.scan.specs.declared.Turn.TheVariants.{Pass, Stop}
use Rattle.reading.specs.Gaps.{comment_turn, gap, gap_depth_of, gap_last, gap_turn}
use Rattle.reading.specs.Passes.{gap_sound}
use Rattle.reading.proofs.Steps.{gap-over, gap-run, level_run, over_level, run_done}
use Rattle.reading.specs.Steps.{gap_level, gap_pass, gap-state, gap_stop}
use Rattle.sheet.specs.Apart.{apart, comments, whites}
use Rattle.sheet.specs.ApartLaws.{comment_told, none-counts, white_counts}

-- w characters of whitespace and k of comments, d deep, lead from one place to another: there the reader goes on, and the count, however many more are counted
pub record Reached (s : List ℕ) (from at w k d : ℕ) : Type 0 where
  pub walked : walk_from gap_turn gap_last 0 (left s at) 0 at (w + k) ≡ gap (left s from) from
  pub counted : (j : ℕ) → comments (take (w + k + j) (left s from)) ≡ k + comments (take j (left s at))
  pub deep : depth_from gap_turn 0 (left s at) 0 at d ≡ gap_depth_of (left s from) from

pub start : (s : List ℕ) (from : ℕ) → Reached s from from 0 0 0
unfolding gap
start s from = record { walked = refl; counted = λ j. let q : 0 + 0 + j ≡ j = omega arith in rw q (omega arith); deep = refl }

-- ---- a run of spaces below 128
module _ (s : List ℕ) (m : ℕ) where
  space_on : (at n : ℕ) → at < length s → gap_stop (get_or s at 0) ≡ false → comments (take (m - n) (left s at)) ≡ comments (take (m - (n + 1)) (left s (at + 1)))
  space_on at n l e = go (m - n) refl
    where
      b : (leb 128 (get_or s at 0) ≡ false) × (not (is_whitespace (get_or s at 0)) ≡ false)
      b = neither (leb 128 (get_or s at 0)) (not (is_whitespace (get_or s at 0))) e

      h : Seen s at (get_or s at 0) 1
      h = byte_seen s at l (leb-false _ _ b.0)

      go : (i : ℕ) → m - n ≡ i → comments (take (m - n) (left s at)) ≡ comments (take (m - (n + 1)) (left s (at + 1)))
      go zero q = let r : m - (n + 1) ≡ 0 = omega arith in rw (q, r)
      go (suc i) q = let r : m - (n + 1) ≡ i = omega arith in rw (q, r, h.next) (white_counts (get_or s at 0) (take i (left s (at + 1))) (not-false _ b.1))

  spaces : (from to : ℕ) → to ≡ from + run gap_stop (drop from s) → comments (take (m - (0 + (to - from))) (left s to)) ≡ comments (take (m - 0) (left s from))
  spaces from to e = run-over s gap_stop (λ (at n : ℕ). comments (take (m - n) (left s at))) space_on from to 0 e

pub spaced : (s : List ℕ) (from at to w k d : ℕ) → to ≡ at + run gap_stop (drop at s) → Reached s from at w k d → Reached s from to (w + (to - at)) k d
spaced s from at to w k d e h = record {
  walked = let q : w + (to - at) + k ≡ w + k + (to - at) = omega arith in rw q (gap-run s at to (w + k) e ∙ h.walked);
  counted = λ j.
      let q : w + (to - at) + k + j ≡ w + k + (to - at + j) = omega arith in
      let x : to - at + j - (0 + (to - at)) ≡ j = omega arith in
      let y : to - at + j - 0 ≡ to - at + j = omega arith in
      let i : comments (take j (left s to)) ≡ comments (take (to - at + j) (left s at)) = rw (x, y) at (spaces s (to - at + j) at to e) in
      rw q (omega (arith, h.counted (to - at + j), i));
  deep = level_run s d at to e ∙ h.deep;
}

-- ---- a turn that passes
white_turn : (c : ℕ) (cs : List ℕ) (at next p m b : ℕ) → (c ≡ 47 → ⊥) → gap_turn 0 c cs at next ≡ Pass p m b → (is_whitespace c ≡ true) × (m ≡ 0)
unfolding gap_turn
white_turn c cs at next p m b n e = go (is_whitespace c) refl
  where
    go : (t : Bool) → is_whitespace c ≡ t → (is_whitespace c ≡ true) × (m ≡ 0)
    go true q = let u : Pass next 0 0 ≡ Pass p m b = rw (ne_eqb c 47 n, q) at e in let v : 0 ≡ m = cc in (q, omega arith)
    go false q = let u : Stop ≡ Pass p m b = rw (ne_eqb c 47 n, q) at e in let v : ◌≡◌ {A = ℕ} 0 1 = cc in absurd (omega arith)

slash_turn : (cs : List ℕ) (at next p m b : ℕ) → gap_turn 0 47 cs at next ≡ Pass p m b → comment_turn at cs next ≡ Pass p m b
unfolding gap_turn
slash_turn cs at next p m b e = e

module _ {s : List ℕ} {from at w k d c v p m b : ℕ} (h : Reached s from at w k d) (g : Seen s at c v) (e : gap_turn 0 c (left s (at + v)) at (at + v) ≡ Pass p m b) where
  far : Lands s (at + v) m p
  far = lands m s (at + v) p (gap_pass 0 c (left s (at + v)) at (at + v) p m b e)

  on : walk_from gap_turn gap_last 0 (left s p) 0 p (w + k + 1 + m) ≡ gap (left s from) from
  on = gap-state 0 (left s p) 0 b p (w + k + 1 + m) ∙ sym (walk_pass gap_turn gap_last g 0 (w + k) e far) ∙ h.walked

  down : depth_from gap_turn 0 (left s p) 0 p (deeper d (cover_depth c (left s (at + v)))) ≡ gap_depth_of (left s from) from
  down = gap_level 0 (left s p) 0 b p (deeper d (cover_depth c (left s (at + v)))) ∙ sym (depth_pass gap_turn g 0 d e far) ∙ h.deep

  more : (i : ℕ) → comments (take (w + k + suc i) (left s from)) ≡ k + comments (c ∷ take i (left s (at + v)))
  more i = rw g.next at (h.counted (suc i))

  pub passed_white : (c ≡ 47 → ⊥) → Reached s from p (w + 1) k d
  passed_white n =
      let (y, z) = white_turn c (left s (at + v)) at (at + v) p m b n e in
      let r : left s (at + v) ≡ left s p = rw z at far.rest in
      record {
        walked = let q : w + k + 1 + m ≡ w + 1 + k = omega arith in rw q at on;
        counted = λ j.
            let q : w + 1 + k + j ≡ w + k + suc j = omega arith in
            rw (q, ← r) (omega (arith, more j, white_counts c (take j (left s (at + v))) y));
        deep = sym (ap (depth_from gap_turn 0 (left s p) 0 p) (ap (deeper d) (cover_none c (left s (at + v)) n) ∙ deeper-none d)) ∙ down;
      }

  pub passed_comment : c ≡ 47 → (d' : ℕ) → d' ≡ deeper d (cover_depth c (left s (at + v))) → Reached s from p w (k + 1 + m) d'
  passed_comment n d' f =
      record {
        walked = let q : w + k + 1 + m ≡ w + (k + 1 + m) = omega arith in rw q at on;
        counted = λ j.
            let q : w + (k + 1 + m) + j ≡ w + k + suc (m + j) = omega arith in
            let t = comment_told at (left s (at + v)) (at + v) p m b j far.within (slash_turn (left s (at + v)) at (at + v) p m b (rw n at e)) in
            rw (q, ← far.rest) (omega (arith, rw n at (more (m + j)), t));
        deep = rw f down;
      }

-- ---- what is answered
module _ {s : List ℕ} {from at w k d : ℕ} (h : Reached s from at w k d) where
  pub told_past : walk_from gap_turn gap_last 0 (left s at) 0 at (w + k) ≡ Ok (at, w + k) → depth_from gap_turn 0 (left s at) 0 at d ≡ d → Ok (at, w, k, d) ≡ apart (left s from) from
  unfolding apart whites
  told_past x y =
      let e : gap (left s from) from ≡ Ok (at, w + k) = sym h.walked ∙ x in
      let f : Far (left s from) from (w + k) at = (rw e at (gap_sound (left s from) from)).is in
      let z : w + k + 0 ≡ w + k = omega arith in
      let c : comments (take (w + k) (left s from)) ≡ k = omega (arith, rw z at (h.counted 0), none-counts) in
      let u : w + k - k ≡ w = omega arith in
      let v : gap_depth_of (left s from) from ≡ d = sym h.deep ∙ y in
      rw (e, c, length-take-le (w + k) (left s from) f.within, u, v)

  pub told_lost : {r : Refusal} {p m : ℕ} → walk_from gap_turn gap_last 0 (left s at) 0 at (w + k) ≡ Err (r, p, m) → Err (r, m) ≡ apart (left s from) from
  unfolding apart
  told_lost {r} {p} {m} x = let e : gap (left s from) from ≡ Err (r, p, m) = sym h.walked ∙ x in rw e

-- a run of spaces, and then a byte that neither is whitespace nor starts a comment
pub told_over : (s : List ℕ) (from to : ℕ) → to ≡ from + run gap_stop (drop from s) → to < length s → get_or s to 0 < 128 → (get_or s to 0 ≡ 47 → ⊥)
    → Ok (to, to - from, 0, 0) ≡ apart (left s from) from
told_over s from to e l a n =
    let q : 0 + (to - from) ≡ to - from = omega arith in
    let h : Reached s from to (to - from) 0 0 = rw q at (spaced s from from to 0 0 0 e (start s from)) in
    let w = run_done s from to e l a in
    told_past h (gap-over s to (to - from + 0) l a n w) (over_level s to 0 l a n w)
