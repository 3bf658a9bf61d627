-- The bytes that change nothing in code, as a table. They are for speed alone: no rule of 01 speaks of them.
use Rattle.std.specs.Prelude.{◌+◌, ◌-◌, ◌<◌, suc, zero, ℕ, Bool, ◌||◌, cond, false, not, true, List, [], ◌∷◌, ◌≡◌, refl, leb, ltb, drop, get_or, length}
use Rattle.std.proofs.Common.{arith, ◌∙◌, ap, sym}
use Rattle.std.proofs.Math.Dec.{eqb}
use borrow.Author.Tests.{eq-eqb, eqb-false, eqb-true, leb-false, lt-leb, ne_eqb, not-false}
use Rattle.utf8.specs.Chars.{'#, '/, 'comma, 'dot, 'dquote, 'quote, 'r, 'semi}
use Rattle.record.specs.declared.Reading.{Reading}
use Rattle.scan.specs.Far.{far_none, lands}
use Rattle.scan.specs.Runs.{byte_seen, neither, run, run-over}
use Rattle.scan.specs.Deepens.{depth-calm}
use Rattle.scan.specs.Depth.{depth_from}
use Rattle.scan.specs.Turns.{walk_pass}
use Rattle.scan.specs.Until.{left}
use Rattle.scan.specs.Walk.{walk_from}
use Rattle.scan.specs.Shapes.{Skip}
use Rattle.scan.specs.declared.Turn.TheVariants.{Pass}
use Rattle.code.specs.Code.{closes, code_turn, opens}

-- a byte that has no dot in a lent table
abbrev pub class_stop : List ℕ → ℕ → Bool
class_stop t x = leb 256 x || not (eqb (get_or t x 0) 'dot)

-- the signs that code's rules name, and the bytes of longer characters
abbrev pub covers : ℕ → Bool
covers x = eqb x 'dquote || (eqb x 'quote || (eqb x 'r || eqb x '/))

abbrev pub ends : ℕ → Bool
ends x = eqb x 'comma || eqb x 'semi

abbrev pub signs : ℕ → Bool
signs x = covers x || (opens x || (closes x || ends x))

unfoldable pub stop_here : ℕ → Bool
stop_here x = leb 128 x || signs x

-- n entries of a table, from k on: a hash to stop at
unfoldable pub table : (ℕ → Bool) → ℕ → ℕ → List ℕ
table f zero k = []
table f (suc n) k = cond (f k) '# 'dot ∷ table f n (suc k)

unfoldable pub code_stops : List ℕ
code_stops = table stop_here 256 0

pub stops_length : length code_stops ≡ 256
unfolding code_stops table
stops_length = refl

table_at : (f : ℕ → Bool) (n k i : ℕ) → i < n → get_or (table f n k) i 0 ≡ cond (f (k + i)) '# 'dot
unfolding table
table_at f zero k i h = absurd (omega arith)
table_at f (suc n) k zero h = let q : k ≡ k + 0 = omega arith in ap (λ (j : ℕ). cond (f j) '# 'dot) q
table_at f (suc n) k (suc i) h =
    let q : suc k + i ≡ k + suc i = omega arith in
    table_at f n (suc k) i (omega arith) ∙ ap (λ (j : ℕ). cond (f j) '# 'dot) q

-- what a place of the table says
module _ (t : List ℕ) (x : ℕ) (h : x < 256) where
  pub class_on : get_or t x 0 ≡ 'dot → class_stop t x ≡ false
  class_on e = rw (lt-leb 256 x h, eq-eqb (get_or t x 0) 'dot e)

  pub class_stop_lem : (get_or t x 0 ≡ 'dot → ⊥) → class_stop t x ≡ true
  class_stop_lem e = rw (lt-leb 256 x h, ne_eqb (get_or t x 0) 'dot e)

none : (d : Bool) → cond d '# 'dot ≡ 'dot → d ≡ false
none true e = absurd (omega arith)
none false e = refl

class_none : (x : ℕ) → class_stop code_stops x ≡ false → stop_here x ≡ false
unfolding code_stops
class_none x e =
    let n = neither (leb 256 x) (not (eqb (get_or code_stops x 0) 'dot)) e in
    let z : get_or code_stops x 0 ≡ 'dot = eqb-true _ _ (not-false _ n.1) in
    let q : 0 + x ≡ x = omega arith in
    none (stop_here x) (rw q at (sym (table_at stop_here 256 0 x (leb-false 256 x n.0)) ∙ z))

either_way : {A : Type 0} (d : Bool) (x : A) → cond d x x ≡ x
either_way true x = refl
either_way false x = refl

-- a byte that the table passes is a character, and changes nothing
module _ (x : ℕ) (e : stop_here x ≡ false) where
  calm-low : x < 128
  unfolding stop_here
  calm-low = leb-false 128 x (neither (leb 128 x) (signs x) e).0

  calm-none : x ≡ '/ → ⊥
  unfolding stop_here
  calm-none =
      let s = neither (covers x) (opens x || (closes x || ends x)) (neither (leb 128 x) (signs x) e).1 in
      let d = neither (eqb x 'dquote) (eqb x 'quote || (eqb x 'r || eqb x '/)) s.0 in
      let q = neither (eqb x 'quote) (eqb x 'r || eqb x '/) d.1 in
      eqb-false x '/ (neither (eqb x 'r) (eqb x '/) q.1).1

-- in every reading
module _ (rd : Reading) where
  calm : (x : ℕ) → stop_here x ≡ false → (b : ℕ) (cs : List ℕ) (at next : ℕ) → code_turn rd b x cs at next ≡ Pass next 0 b
  unfolding stop_here code_turn
  calm x e b cs at next =
      let s = neither (covers x) (opens x || (closes x || ends x)) (neither (leb 128 x) (signs x) e).1 in
      let o = neither (opens x) (closes x || ends x) s.1 in
      let c = neither (closes x) (ends x) o.1 in
      let f = neither (eqb x 'comma) (eqb x 'semi) c.1 in
      let d = neither (eqb x 'dquote) (eqb x 'quote || (eqb x 'r || eqb x '/)) s.0 in
      let q = neither (eqb x 'quote) (eqb x 'r || eqb x '/) d.1 in
      let r = neither (eqb x 'r) (eqb x '/) q.1 in
      simp (d.0, q.0, r.0, r.1, o.0, c.0, f.0, f.1) (either_way (ltb 0 b) (Pass next 0 b))

  module _ (last : ℕ → ℕ → ℕ → Skip) (s : List ℕ) (b : ℕ) where
    calm-on : (at n : ℕ) → at < length s → class_stop code_stops (get_or s at 0) ≡ false
        → walk_from (code_turn rd) last 0 (left s at) b at n ≡ walk_from (code_turn rd) last 0 (left s (at + 1)) b (at + 1) (n + 1)
    calm-on at n h e =
        let z = class_none (get_or s at 0) e in
        let q : n + 1 + 0 ≡ n + 1 = omega arith in
        rw q at (walk_pass (code_turn rd) last (byte_seen s at h (calm-low _ z)) b n (calm _ z b (left s (at + 1)) at (at + 1)) (lands 0 s (at + 1) (at + 1) (far_none _ _)))

    pub walk-run : (from to n : ℕ) → to ≡ from + run (class_stop code_stops) (drop from s)
        → walk_from (code_turn rd) last 0 (left s to) b to (n + (to - from)) ≡ walk_from (code_turn rd) last 0 (left s from) b from n
    walk-run = run-over s (class_stop code_stops) (λ (at n : ℕ). walk_from (code_turn rd) last 0 (left s at) b at n) calm-on

  -- and a run of such bytes goes no deeper
  module _ (s : List ℕ) (b d : ℕ) where
    depth-on : (at n : ℕ) → at < length s → class_stop code_stops (get_or s at 0) ≡ false
        → depth_from (code_turn rd) 0 (left s at) b at d ≡ depth_from (code_turn rd) 0 (left s (at + 1)) b (at + 1) d
    depth-on at n h e =
        let z = class_none (get_or s at 0) e in
        depth-calm (code_turn rd) (byte_seen s at h (calm-low _ z)) b d (calm _ z b (left s (at + 1)) at (at + 1)) (lands 0 s (at + 1) (at + 1) (far_none _ _)) (calm-none _ z)

    pub depth-run : (from to : ℕ) → to ≡ from + run (class_stop code_stops) (drop from s)
        → depth_from (code_turn rd) 0 (left s to) b to d ≡ depth_from (code_turn rd) 0 (left s from) b from d
    depth-run from to e = run-over s (class_stop code_stops) (λ (at n : ℕ). depth_from (code_turn rd) 0 (left s at) b at d) depth-on from to 0 e
