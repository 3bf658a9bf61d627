-- Whatever the gap's reader passes is blank: its turns, and the gap.
use Prim.Native.Nat.{◌+◌, ◌≤◌, suc, zero, ℕ}
use Rattle.std.proofs.Common.{arith, eqb-true, Ok, Err}
use Rattle.std.specs.Prelude.{List, [], ◌∷◌, eqb, drop, length, take}
use Rattle.std.proofs.Math.Path.{◌≡◌, refl}
use Rattle.utf8.specs.Utf8.{width_of}
use Rattle.unicode_xid.specs.Whitespace.{is_whitespace}
use Rattle.scan.specs.Far.{Far}
use Rattle.scan.specs.Passes.{Good}
use Rattle.scan.specs.Walk.{walk_from}
use Rattle.scan.specs.declared.Turn.{Turn}
use Rattle.scan.specs.declared.Turn.TheVariants.{Fail, Pass, Stop}
use Rattle.reading.specs.Blank.{Blank, white}
use Rattle.reading.specs.Gaps.{gap, gap_last, gap_turn}
use Rattle.reading.specs.Passes.{gap_good}
use Rattle.reading.specs.Blanks.{Covers, covers-test, covers-stop, comment_covers, Passed, passed_none, cover_then}
use Rattle.scan.specs.Shapes.{same_ok}

turn-covers : (b c : ℕ) (cs : List ℕ) (at next : ℕ) → Covers c cs (gap_turn b c cs at next)
unfolding gap_turn
turn-covers b c cs at next =
    covers-test c cs (eqb c 47) _ _ (λ q. rw (eqb-true c 47 q) (comment_covers at cs next))
    (λ _. covers-test c cs (is_whitespace c) _ _ (λ q. record { is = λ xs rest d h. white {xs = xs} c q h }) (λ _. covers-stop c cs))

walk-blank : (p m k : ℕ) (cs : List ℕ) (b at n : ℕ) → k ≤ length cs → walk_from gap_turn gap_last k cs b at n ≡ Ok (p, m) → Passed k n m cs
unfolding walk_from
walk-blank p m zero [] b at n l e = passed_none m n [] (same_ok _ _ _ _ e).1
walk-blank p m (suc k) [] b at n l e = absurd (omega arith)
walk-blank p m (suc k) (c ∷ cs) b at n l e =
    let h = walk-blank p m k cs b (at + width_of c) (n + 1) (omega arith) e in
    let y = h.counted in
    record { by = h.by; counted = omega arith; blank = h.blank }
walk-blank p m zero (c ∷ cs) b at n l e =
    go (gap_turn b c cs at (at + width_of c)) refl (gap_good b c cs at (at + width_of c)) (turn-covers b c cs at (at + width_of c))
    (λ j b'. walk-blank p m j cs b' (at + width_of c) (n + 1))
  where
    go : (t : Turn) → gap_turn b c cs at (at + width_of c) ≡ t → Good cs (at + width_of c) (gap_turn b c cs at (at + width_of c)) → Covers c cs (gap_turn b c cs at (at + width_of c))
        → ((j b' : ℕ) → j ≤ length cs → walk_from gap_turn gap_last j cs b' (at + width_of c) (n + 1) ≡ Ok (p, m) → Passed j (n + 1) m cs) → Passed 0 n m (c ∷ cs)
    go Stop q g v f =
        let u : Ok (at, n) ≡ Ok (p, m) = rw (q, walk_from) at e in
        passed_none m n (c ∷ cs) (same_ok _ _ _ _ u).1
    go (Fail r x i) q g v f =
        let u : Err (r, x, n + 1 + i) ≡ Ok (p, m) = rw (q, walk_from) at e in
        let w : ◌≡◌ {A = ℕ} 0 1 = cc in
        absurd (omega arith)
    go (Pass x i b') q g v f =
        let far : Far cs (at + width_of c) i x = (rw q at g).is in
        let h = f i b' far.within (rw (q, walk_from) at e) in
        let y = h.counted in
        record { by = suc (i + h.by); counted = omega arith; blank = cover_then c cs x i b' h.by (rw q at v).is h.blank }

pub gap-blank : (cs : List ℕ) (at p m : ℕ) → gap cs at ≡ Ok (p, m) → Blank (drop m cs) (take m cs)
unfolding gap
gap-blank cs at p m e =
    let h = walk-blank p m 0 cs 0 at 0 (omega arith) e in
    let y = h.counted in
    let z : h.by ≡ m = omega arith in
    rw z at h.blank
