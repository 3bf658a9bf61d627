-- What the code will cite: where a run of spaces ends a gap, and how many advances a call has.
use Rattle.std.specs.Prelude.{◌*◌, ◌+◌, ◌-◌, ◌<◌, ◌≤◌, ℕ, Bool, not, ◌≡◌, leb, drop, get_or, Ok, Err}
use Rattle.std.proofs.Common.{◌∙◌, ap}
use native.Mathlib.Omega.{arith}
use Rattle.std.proofs.Math.Bool.{false, true}
use mathlib.Core.List.{List, [], ◌∷◌}
use Rattle.std.proofs.Math.Path.{refl, sym}
use Rattle.std.proofs.Math.Dec.{eqb}
use Rattle.std.proofs.Math.ListN.{length, length-drop}
use borrow.Author.Tests.{leb-false, ne_eqb}
use Rattle.utf8.specs.Utf8.{width_of}
use Rattle.unicode_xid.specs.Whitespace.{is_whitespace}
use Rattle.record.specs.declared.Reading.{Reading}
use Rattle.scan.specs.Deepens.{depth-calm, depth-stop}
use Rattle.scan.specs.Depth.{depth_from}
use Rattle.scan.specs.Far.{Far, far_none, fits, lands}
use Rattle.scan.specs.Runs.{byte_seen, neither, run, run_on, run-over}
use Rattle.scan.specs.Turns.{walk_pass, walk-stop}
use Rattle.scan.specs.Until.{left}
use Rattle.scan.specs.Walk.{walk_from}
use Rattle.scan.specs.declared.Turn.TheVariants.{Stop}
use Rattle.reading.specs.Answers.{deliver, more, plain}
use Rattle.reading.specs.Attribute.{attempt, attribute_token, dropped, hash, hash_by}
use Rattle.reading.proofs.CallLaw.{LaidIn, next-laid}
use Rattle.reading.specs.CallLaw.{Tried, attempt_tried, tail_far}
use Rattle.reading.proofs.Calls.{plain-taken}
use Rattle.reading.specs.Gaps.{gap, gap_depth_of, gap_last, gap_turn}
use Rattle.reading.specs.Measures.{is_hash, wasted}
use Rattle.reading.specs.Next.{next, token, token_or_end}
use Rattle.reading.specs.Passes.{gap_sound}
use Rattle.reading.proofs.Sums.{passed_by, placed_far}
use Rattle.reading.specs.Sums.{cost-le, wasted-most}
use Rattle.reading.specs.Shapes.{Attempt}
use Rattle.reading.specs.declared.Call.{Call}
use Rattle.reading.specs.declared.What.{What}
use Rattle.reading.specs.declared.What.TheVariants.{End, Error, Got}
use Rattle.reading.specs.Steps.{Within, gap_stop, gap_near, not-false, space_none, space_turn}

stop-turn : (x : ℕ) (cs : List ℕ) (at next : ℕ) → (x ≡ 47 → ⊥) → is_whitespace x ≡ false → gap_turn 0 x cs at next ≡ Stop
unfolding gap_turn
stop-turn x cs at next n w = rw (ne_eqb x 47 n) (rw w)

module _ (s : List ℕ) where
  -- a byte below 128 that neither is white space nor starts a comment ends the gap
  pub gap-over : (at n : ℕ) → at < length s → get_or s at 0 < 128 → (get_or s at 0 ≡ 47 → ⊥) → is_whitespace (get_or s at 0) ≡ false
      → walk_from gap_turn gap_last 0 (left s at) 0 at n ≡ Ok (at, n)
  gap-over at n l a b w = walk-stop gap_turn gap_last (byte_seen s at l a) 0 n (stop-turn (get_or s at 0) (left s (at + 1)) at (at + 1) b w)

  gap-on : (at n : ℕ) → at < length s → gap_stop (get_or s at 0) ≡ false
      → walk_from gap_turn gap_last 0 (left s at) 0 at n ≡ walk_from gap_turn gap_last 0 (left s (at + 1)) 0 (at + 1) (n + 1)
  gap-on at n l e =
      let b = neither (leb 128 (get_or s at 0)) (not (is_whitespace (get_or s at 0))) e in
      let h = byte_seen s at l (leb-false _ _ b.0) in
      let q : n + 1 + 0 ≡ n + 1 = omega arith in
      let f : Far (left s (at + 1)) (at + 1) 0 (at + 1) = far_none _ _ in
      rw q at (walk_pass gap_turn gap_last h 0 n (space_turn (get_or s at 0) (left s (at + 1)) at (at + 1) (not-false _ b.1)) (lands 0 s (at + 1) (at + 1) f))

  pub gap-run : (from to n : ℕ) → to ≡ from + run gap_stop (drop from s)
      → walk_from gap_turn gap_last 0 (left s to) 0 to (n + (to - from)) ≡ walk_from gap_turn gap_last 0 (left s from) 0 from n
  gap-run = run-over s gap_stop (λ (at n : ℕ). walk_from gap_turn gap_last 0 (left s at) 0 at n) gap-on

  -- nor does it go deeper there
  pub over_level : (at d : ℕ) → at < length s → get_or s at 0 < 128 → (get_or s at 0 ≡ 47 → ⊥) → is_whitespace (get_or s at 0) ≡ false
      → depth_from gap_turn 0 (left s at) 0 at d ≡ d
  over_level at d l a b w = depth-stop gap_turn (byte_seen s at l a) 0 d (stop-turn (get_or s at 0) (left s (at + 1)) at (at + 1) b w)

  level_on : (d at n : ℕ) → at < length s → gap_stop (get_or s at 0) ≡ false
      → depth_from gap_turn 0 (left s at) 0 at d ≡ depth_from gap_turn 0 (left s (at + 1)) 0 (at + 1) d
  level_on d at n l e =
      let b = neither (leb 128 (get_or s at 0)) (not (is_whitespace (get_or s at 0))) e in
      let h = byte_seen s at l (leb-false _ _ b.0) in
      let w = not-false (is_whitespace (get_or s at 0)) b.1 in
      let f : Far (left s (at + 1)) (at + 1) 0 (at + 1) = far_none _ _ in
      depth-calm gap_turn h 0 d (space_turn (get_or s at 0) (left s (at + 1)) at (at + 1) w) (lands 0 s (at + 1) (at + 1) f) (space_none (get_or s at 0) w)

  pub level_run : (d from to : ℕ) → to ≡ from + run gap_stop (drop from s)
      → depth_from gap_turn 0 (left s to) 0 to d ≡ depth_from gap_turn 0 (left s from) 0 from d
  level_run d from to e = run-over s gap_stop (λ (at n : ℕ). depth_from gap_turn 0 (left s at) 0 at d) (level_on d) from to 0 e

  -- the byte that such a run stops at: below 128 it is no whitespace
  pub run_done : (from to : ℕ) → to ≡ from + run gap_stop (drop from s) → to < length s → get_or s to 0 < 128 → is_whitespace (get_or s to 0) ≡ false
  run_done from to e l a = go (is_whitespace (get_or s to 0)) refl
    where
      -- a run from where a run ends is none
      none : to + run gap_stop (drop to s) ≡ from + run gap_stop (drop from s)
      none = run-over s gap_stop (λ (at n : ℕ). at + run gap_stop (drop at s)) (λ at n h q. omega (arith, run_on gap_stop s at h q)) from to 0 e

      go : (b : Bool) → is_whitespace (get_or s to 0) ≡ b → is_whitespace (get_or s to 0) ≡ false
      go true q = absurd (omega (arith, none, run_on gap_stop s to l (gap_near (get_or s to 0) false a (ap not q))))
      go false q = q

  -- so one that starts no comment ends the gap
  pub gap_ends : (from to : ℕ) → to ≡ from + run gap_stop (drop from s) → to < length s → get_or s to 0 < 128 → (get_or s to 0 ≡ 47 → ⊥)
      → (gap (left s from) from ≡ Ok (to, to - from)) × (gap_depth_of (left s from) from ≡ 0)
  unfolding gap
  gap_ends from to e l a n =
      let w = run_done from to e l a in
      let q : 0 + (to - from) ≡ to - from = omega arith in
      (sym (rw q at (gap-run from to 0 e)) ∙ gap-over to (to - from) l a n w, sym (level_run 0 from to e) ∙ over_level to 0 l a n w)

-- in every reading
module _ (rd : Reading) where
  -- a token's advances are no more than the characters that are left, a failed attempt's among them
  hash-most : (o : ℕ) (cs : List ℕ) (at : ℕ) → (hash rd o cs at).advances ≤ length cs
  unfolding hash more attribute_token plain deliver dropped
  hash-most o cs at = go (attempt cs at) (attempt_tried cs at)
    where
      go : (x : Attempt) → Tried cs at x → (hash_by rd o cs at x).advances ≤ length cs
      go (Ok (p, m)) h = let f : Far cs at m p = h.is in omega (arith, f.within, (tail_far rd (drop m cs) p).within, length-drop m cs)
      go (Err (p, m)) h = h.is.within

  token-most : (cs : List ℕ) (o : ℕ) → (token_or_end rd cs o).advances ≤ length cs
  unfolding token_or_end token more
  token-most [] o = omega arith
  token-most (c ∷ cs) o = go (eqb c 35) refl
    where
      go : (t : Bool) → eqb c 35 ≡ t → (token rd c cs o (o + width_of c)).advances ≤ length (c ∷ cs)
      go true q = rw q (omega (arith, hash-most o cs (o + width_of c)))
      go false q = rw q (plain-taken rd c cs o).fair.far.within

  module _ (s : List ℕ) (at : ℕ) {x : Call} where
    pub hash-fits : (o : ℕ) → x ≡ hash rd o (left s at) at → x.advances ≤ length s
    hash-fits o e = omega (arith, ap (λ (z : Call). z.advances) e, hash-most o (left s at) at, fits s at)

    pub token-fits : x ≡ token_or_end rd (left s at) at → x.advances ≤ length s
    token-fits e = omega (arith, ap (λ (z : Call). z.advances) e, token-most (left s at) at, fits s at)

  within_in : (s : List ℕ) (at : ℕ) → at ≤ length s → (p n : ℕ) (w : What) → LaidIn rd (left s at) at p n w → (p ≤ length s) × (n ≤ 2 * length (left s at))
  within_in s at l p n (Got t) h =
      let f = placed_far rd (left s at) at t p n h in
      let y = lands (passed_by rd h) s at p f in
      let c = cost-le (is_hash t.kind) (wasted (drop h.gapped (left s at)) t.start) in
      let d = wasted-most (drop h.gapped (left s at)) t.start in
      let e = length-drop h.gapped (left s at) in
      let g = f.within in
      let z = h.spent in
      (y.room l, omega (arith, c, d, e, g, z))
  within_in s at l p n (Error r) h = let y = lands n s at p h in (y.room l, omega (arith, h.within))
  within_in s at l p n End h =
      let f : Far (left s at) at n p = (rw h.0 at (gap_sound (left s at) at)).is in
      let y = lands n s at p f in
      (y.room l, omega (arith, h.1))

  pub call-within : (s : List ℕ) (at : ℕ) → at ≤ length s → Within s at (next rd (left s at) at)
  call-within s at l =
      let x = next rd (left s at) at in
      let h = within_in s at l x.at x.advances x.what (next-laid rd (left s at) at).is in
      record { room = h.0; most = h.1 }
