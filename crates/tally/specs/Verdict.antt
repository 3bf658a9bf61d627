-- WHAT THE VERDICT MEANS: where a file's tally agrees, the function answers at every code point what the file's lines say.
use Rattle.std.specs.Prelude.{ℕ, zero, suc, ◌+◌, ◌-◌, ◌≤◌, ◌<◌, ◌≡◌, refl, Bool, true, false, cond, ◌&&◌, ◌||◌, List, eqb, leb, ltb, length}
use Rattle.std.proofs.Common.{sym, arith, le-leb, eqb-true}
use Rattle.std.proofs.lemmas.Bool.{lt-leb, eqb-false}
use Rattle.utf8.specs.Picks.{tests}
use Rattle.property.specs.declared.line.Property.{Property}
use Rattle.property.specs.declared.line.Line.{Line}
use Rattle.property.specs.declared.line.Line.TheVariants.{Nothing, Range, Damaged}
use Rattle.property.specs.Lines.{line_at}
use Rattle.tally.specs.declared.tally.Tally.{Tally}
use Rattle.tally.specs.Answers.{asked, wanted, other, number_of}
use Rattle.tally.specs.Tallies.{end, fresh_tally, noted, step_of, steps_of, up_to, spoilt_of, with_range, with_line, lines_from, of_lines, tally_of, agrees_of}
use Rattle.tally.specs.Laws.{Sane, sane_fresh, sane_line, up_next}

-- whether a line names the code point c
unfoldable pub in_line : Property → Line → ℕ → Bool
in_line p Nothing c = false
in_line p (Range first last q) c = eqb (number_of q) (number_of p) && (leb first c && leb c last)
in_line p Damaged c = false

-- whether a line does from a place on, of at most k
unfoldable pub named_from : ℕ → List ℕ → Property → ℕ → ℕ → Bool
named_from zero s p at c = false
named_from (suc k) s p at c =
    elim (ltb at (length s)) [
      | true ↦ in_line p (line_at s at).line c || named_from k s p (line_at s at).next c
      | false ↦ false
    ]

-- whether a file does
abbrev pub named : List ℕ → Property → ℕ → Bool
named s p c = named_from (length s) s p 0 c

-- nothing is noted
record Clean (t : Tally) : Type 0 where
  first : t.first ≡ end
  damaged : t.damaged ≡ 0

-- between the tallies t and u the answers are those that `told` wants, and it tells of no other code point
record Covers (p : Property) (told : ℕ → Bool) (t u : Tally) : Type 0 where
  clean : Clean t
  next : t.next ≤ u.next
  below : (c : ℕ) → c < t.next → told c ≡ false
  above : (c : ℕ) → u.next ≤ c → told c ≡ false
  right : (c : ℕ) → t.next ≤ c → c < u.next → asked p c ≡ wanted p (told c) c

covers-none : (p : Property) (t : Tally) → Clean t → Covers p (λ c. false) t t
covers-none p t h = record { clean = h; next = omega arith; below = λ c l. refl; above = λ c l. refl; right = λ c l m. absurd (omega arith) }

or-none : (b : Bool) → (b || false) ≡ b
or-none true = refl
or-none false = refl

covers-join : (p : Property) (a b : ℕ → Bool) (t u v : Tally) → Covers p a t u → Covers p b u v → Covers p (λ c. a c || b c) t v
covers-join p a b t u v g h =
    record {
      clean = g.clean;
      next = omega (arith, g.next, h.next);
      below = λ c l. rw (g.below c l, h.below c (omega (arith, g.next)));
      above = λ c l. rw (g.above c (omega (arith, h.next)), h.above c l);
      right = λ c l m. go c l m (ltb c u.next) refl;
    }
  where
    go : (c : ℕ) → t.next ≤ c → c < v.next → (d : Bool) → ltb c u.next ≡ d → asked p c ≡ wanted p (a c || b c) c
    go c l m true q = rw (h.below c (omega tests), or-none (a c)) (g.right c l (omega tests))
    go c l m false q = rw (g.above c (omega tests)) (h.right c (omega tests) m)

-- A CODE POINT
other-false : (a w : Bool) → other a w ≡ false → a ≡ w
other-false true true e = refl
other-false true false e = e
other-false false true e = sym e
other-false false false e = refl

step_right : (p : Property) (told : Bool) (t : Tally) → t.next < end → Clean (step_of p told t) → Clean t × (asked p t.next ≡ wanted p told t.next)
unfolding step_of noted
step_right p told t l h = go (other (asked p t.next) (wanted p told t.next)) (eqb t.first end) refl refl h.first
  where
    go : (d u : Bool) → other (asked p t.next) (wanted p told t.next) ≡ d → eqb t.first end ≡ u → cond (d && u) t.next t.first ≡ end
        → Clean t × (asked p t.next ≡ wanted p told t.next)
    go false u q r e = (record { first = e; damaged = h.damaged }, other-false (asked p t.next) (wanted p told t.next) q)
    go true true q r e = absurd (omega arith)
    go true false q r e = absurd (eqb-false t.first end r e)

steps_right : (p : Property) (told : Bool) (n : ℕ) (t : Tally) → t.next + n ≤ end → Clean (steps_of p told n t)
    → Clean t × ((c : ℕ) → t.next ≤ c → c < t.next + n → asked p c ≡ wanted p told c)
unfolding steps_of step_of
steps_right p told zero t l h = (h, λ c a b. absurd (omega arith))
steps_right p told (suc n) t l h =
    let r = steps_right p told n (step_of p told t) (omega arith) h in
    let q = step_right p told t (omega arith) r.0 in
    (q.0, λ c a b. go c a b q.1 r.1 (ltb t.next c) refl)
  where
    go : (c : ℕ) → t.next ≤ c → c < t.next + suc n → asked p t.next ≡ wanted p told t.next
        → ((k : ℕ) → t.next + 1 ≤ k → k < t.next + 1 + n → asked p k ≡ wanted p told k) → (d : Bool) → ltb t.next c ≡ d → asked p c ≡ wanted p told c
    go c a b e f true q = f c (omega tests) (omega tests)
    go c a b e f false q = let m : t.next ≡ c = omega tests in rw (← m) e

-- up to a code point, where `told` says the same of all between
covers_up : (p : Property) (b : Bool) (told : ℕ → Bool) (to : ℕ) (t : Tally) → t.next ≤ to → to ≤ end
    → ((c : ℕ) → c < t.next → told c ≡ false) → ((c : ℕ) → to ≤ c → told c ≡ false) → ((c : ℕ) → t.next ≤ c → c < to → told c ≡ b)
    → Clean (up_to p b to t) → Covers p told t (up_to p b to t)
covers_up p b told to t l m below above between h =
    let r = steps_right p b (to - t.next) t (omega arith) h in
    let e = up_next p b to t l in
    record {
      clean = r.0;
      next = omega arith;
      below = below;
      above = λ c k. above c (omega arith);
      right = λ c k j. rw (between c k (omega arith)) (r.1 c k (omega arith));
    }

-- A LINE
spoilt_not_clean : (n : ℕ) (t : Tally) → Clean (spoilt_of (n + 1) t) → ⊥
unfolding spoilt_of
spoilt_not_clean n t h = go (eqb t.damaged 0) refl h.damaged
  where
    go : (d : Bool) → eqb t.damaged 0 ≡ d
        → (cond d (record { next = t.next; told = t.told; yes = t.yes; first = t.first; damaged = n + 1 }) t).damaged ≡ 0 → ⊥
    go true q e = omega arith
    go false q e = eqb-false t.damaged 0 q e

abbrev within : ℕ → ℕ → ℕ → Bool
within first last c = leb first c && leb c last

and_none : (b : Bool) → (b && false) ≡ false
and_none true = refl
and_none false = refl

covers_range : (p : Property) (n first last : ℕ) (t : Tally) → Clean (with_range p (n + 1) first last t)
    → Covers p (within first last) t (with_range p (n + 1) first last t)
unfolding with_range
covers_range p n first last t h = go (ltb first t.next) (ltb last first) (ltb last end) refl refl refl h
  where
    go : (a b d : Bool) → ltb first t.next ≡ a → ltb last first ≡ b → ltb last end ≡ d
        → Clean (cond a (spoilt_of (n + 1) t) (cond b (spoilt_of (n + 1) t) (cond d (up_to p true (last + 1) (up_to p false first t)) (spoilt_of (n + 1) t))))
        → Covers p (within first last) t (cond a (spoilt_of (n + 1) t) (cond b (spoilt_of (n + 1) t) (cond d (up_to p true (last + 1) (up_to p false first t)) (spoilt_of (n + 1) t))))
    go true b d q r u k = absurd (spoilt_not_clean n t k)
    go false true d q r u k = absurd (spoilt_not_clean n t k)
    go false false false q r u k = absurd (spoilt_not_clean n t k)
    go false false true q r u k =
        let l : t.next ≤ first = omega tests in
        let m : first ≤ last = omega tests in
        let j : last < end = omega tests in
        let e = up_next p false first t l in
        let two = covers_up p true (within first last) (last + 1) (up_to p false first t) (omega arith) (omega arith)
        (λ c x. rw (lt-leb first c (omega arith)))
        (λ c x. rw (lt-leb c last (omega arith), and_none (leb first c)))
        (λ c x y. rw (le-leb first c (omega arith), le-leb c last (omega arith)))
        k in
        let one = covers_up p false (λ c. false) first t l (omega arith) (λ c x. refl) (λ c x. refl) (λ c x y. refl) two.clean in
        covers-join p (λ c. false) (within first last) t (up_to p false first t) (up_to p true (last + 1) (up_to p false first t)) one two

covers-line : (p : Property) (n : ℕ) (l : Line) (t : Tally) → Clean (with_line p (n + 1) l t) → Covers p (in_line p l) t (with_line p (n + 1) l t)
unfolding with_line in_line
covers-line p n Nothing t h = covers-none p t h
covers-line p n Damaged t h = absurd (spoilt_not_clean n t h)
covers-line p n (Range first last q) t h = go (eqb (number_of q) (number_of p)) h
  where
    go : (d : Bool) → Clean (cond d (with_range p (n + 1) first last t) t) → Covers p (λ c. d && within first last c) t (cond d (with_range p (n + 1) first last t) t)
    go true k = covers_range p n first last t k
    go false k = covers-none p t k

-- A FILE
covers-lines : (k : ℕ) (s : List ℕ) (p : Property) (at n : ℕ) (t : Tally) → Clean (lines_from k s p at n t) → Covers p (named_from k s p at) t (lines_from k s p at n t)
unfolding lines_from named_from
covers-lines zero s p at n t h = covers-none p t h
covers-lines (suc k) s p at n t h = go (ltb at (length s)) (covers-lines k s p (line_at s at).next (n + 1) (with_line p (n + 1) (line_at s at).line t)) h
  where
    u : Tally
    u = with_line p (n + 1) (line_at s at).line t

    v : Tally
    v = lines_from k s p (line_at s at).next (n + 1) u

    go : (d : Bool) → (Clean v → Covers p (named_from k s p (line_at s at).next) u v) → Clean (elim d as (λ _. Tally) [ true ↦ v | false ↦ t ])
        → Covers p (λ c. elim d as (λ _. Bool) [ true ↦ in_line p (line_at s at).line c || named_from k s p (line_at s at).next c | false ↦ false ]) t (elim d as (λ _. Tally) [ true ↦ v | false ↦ t ])
    go true f j =
        let two = f j in
        covers-join p (in_line p (line_at s at).line) (named_from k s p (line_at s at).next) t u v (covers-line p n (line_at s at).line t two.clean) two
    go false f j = covers-none p t j

clean_agrees : (t : Tally) → agrees_of t ≡ true → Clean t
clean_agrees t e = go (eqb t.damaged 0) (eqb t.first end) refl refl e
  where
    go : (a b : Bool) → eqb t.damaged 0 ≡ a → eqb t.first end ≡ b → (a && b) ≡ true → Clean t
    go true true q r f = record { first = eqb-true t.first end r; damaged = eqb-true t.damaged 0 q }
    go true false q r f = let z : ◌≡◌ {A = ℕ} 0 1 = cc in absurd (omega arith)
    go false b q r f = let z : ◌≡◌ {A = ℕ} 0 1 = cc in absurd (omega arith)

sane_lines : (k : ℕ) (s : List ℕ) (p : Property) (at n : ℕ) (t : Tally) → Sane t → Sane (lines_from k s p at n t)
unfolding lines_from
sane_lines zero s p at n t h = h
sane_lines (suc k) s p at n t h =
    go (ltb at (length s)) (sane_lines k s p (line_at s at).next (n + 1) (with_line p (n + 1) (line_at s at).line t) (sane_line p (n + 1) (line_at s at).line t h))
  where
    v : Tally
    v = lines_from k s p (line_at s at).next (n + 1) (with_line p (n + 1) (line_at s at).line t)

    go : (d : Bool) → Sane v → Sane (elim d as (λ _. Tally) [ true ↦ v | false ↦ t ])
    go true g = g
    go false g = h

pub no_difference : (s : List ℕ) (p : Property) → agrees_of (tally_of s p) ≡ true → (c : ℕ) → c < end → asked p c ≡ wanted p (named s p c) c
unfolding tally_of of_lines
no_difference s p e c l =
    let o = of_lines s p in
    let m : o.next ≤ end = (sane_lines (length s) s p 0 0 fresh_tally sane_fresh).next in
    let two = covers_up p false (λ c. false) end o m (omega arith) (λ c x. refl) (λ c x. refl) (λ c x y. refl) (clean_agrees (tally_of s p) e) in
    let one = covers-lines (length s) s p 0 0 fresh_tally two.clean in
    let all = covers-join p (named s p) (λ c. false) fresh_tally o (up_to p false end o) one two in
    rw or-none at (all.right c (omega arith) (omega (arith, up_next p false end o m)))
