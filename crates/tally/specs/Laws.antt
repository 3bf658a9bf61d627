-- What a turn of each loop keeps.
use Rattle.std.specs.Prelude.{ℕ, zero, suc, ◌+◌, ◌-◌, ◌≤◌, ◌<◌, ◌≡◌, refl, Bool, true, false, cond, List, eqb, ltb, length}
use Rattle.std.proofs.Common.{sym, ◌∙◌, arith, lt-ltb, le-ltb, ne_eqb}
use Rattle.utf8.specs.Picks.{by_test, tests}
use Rattle.property.specs.declared.line.Property.{Property}
use Rattle.property.specs.declared.line.Line.{Line}
use Rattle.property.specs.declared.line.Line.TheVariants.{Nothing, Range, Damaged}
use Rattle.property.specs.Lines.{line_at}
use Rattle.tally.specs.declared.tally.Tally.{Tally}
use Rattle.tally.specs.Answers.{asked, wanted, other, number_of, one}
use Rattle.tally.specs.Tallies.{end, fresh_tally, noted, step_of, steps_of, up_to, spoilt_of, with_range, with_line, lines_from, of_lines, tally_of}

-- a tally counts no more than the code points that it has passed
pub record Sane (t : Tally) : Type 0 where
  pub next : t.next ≤ end
  pub told : t.told ≤ t.next
  pub yes : t.yes ≤ t.next

pub sane_fresh : Sane fresh_tally
sane_fresh = record { next = omega arith; told = omega arith; yes = omega arith }

pub one-most : (t : Bool) → one t ≤ 1
one-most true = omega arith
one-most false = omega arith

pub sane_step : (p : Property) (told : Bool) (t : Tally) → t.next < end → Sane t → Sane (step_of p told t)
unfolding step_of
sane_step p told t l h =
    record {
      next = omega arith;
      told = omega (arith, h.told, one-most told);
      yes = omega (arith, h.yes, one-most (asked p t.next));
    }

pub sane_steps : (p : Property) (told : Bool) (n : ℕ) (t : Tally) → t.next + n ≤ end → Sane t → Sane (steps_of p told n t)
unfolding steps_of step_of
sane_steps p told zero t l h = h
sane_steps p told (suc n) t l h = sane_steps p told n (step_of p told t) (omega arith) (sane_step p told t (omega arith) h)

steps_next : (p : Property) (told : Bool) (n : ℕ) (t : Tally) → (steps_of p told n t).next ≡ t.next + n
unfolding steps_of step_of
steps_next p told zero t = omega arith
steps_next p told (suc n) t = omega (arith, steps_next p told n (step_of p told t))

-- up to a place that is not passed yet
pub sane_up : (p : Property) (told : Bool) (to : ℕ) (t : Tally) → t.next ≤ to → to ≤ end → Sane t → Sane (up_to p told to t)
sane_up p told to t l m h = sane_steps p told (to - t.next) t (omega arith) h

pub up_next : (p : Property) (told : Bool) (to : ℕ) (t : Tally) → t.next ≤ to → (up_to p told to t).next ≡ to
up_next p told to t l = omega (arith, steps_next p told (to - t.next) t)

-- THE LOOP OVER CODE POINTS
pub up_on : (p : Property) (told : Bool) (to : ℕ) (t : Tally) → t.next < to → up_to p told to (step_of p told t) ≡ up_to p told to t
unfolding steps_of step_of
up_on p told to t l =
    let e : to - t.next ≡ suc (to - (t.next + 1)) = omega arith in
    rw e

pub up_end : (p : Property) (told : Bool) (to : ℕ) (t : Tally) → to ≤ t.next → t ≡ up_to p told to t
unfolding steps_of
up_end p told to t l =
    let e : to - t.next ≡ 0 = omega arith in
    rw e

-- A LINE
pub sane_spoilt : (n : ℕ) (t : Tally) → Sane t → Sane (spoilt_of n t)
unfolding spoilt_of
sane_spoilt n t h = by_test Sane (eqb t.damaged 0) _ t (λ q. record { next = h.next; told = h.told; yes = h.yes }) (λ q. h)

sane_range : (p : Property) (n first last : ℕ) (t : Tally) → Sane t → Sane (with_range p n first last t)
unfolding with_range
sane_range p n first last t h = go (ltb first t.next) (ltb last first) (ltb last end) refl refl refl
  where
    go : (a b d : Bool) → ltb first t.next ≡ a → ltb last first ≡ b → ltb last end ≡ d
        → Sane (cond a (spoilt_of n t) (cond b (spoilt_of n t) (cond d (up_to p true (last + 1) (up_to p false first t)) (spoilt_of n t))))
    go true b d q r u = sane_spoilt n t h
    go false true d q r u = sane_spoilt n t h
    go false false false q r u = sane_spoilt n t h
    go false false true q r u =
        let l : t.next ≤ first = omega tests in
        let m : first ≤ last = omega tests in
        let k : last < end = omega tests in
        sane_up p true (last + 1) (up_to p false first t) (omega (arith, up_next p false first t l)) (omega arith) (sane_up p false first t l (omega arith) h)

pub sane_line : (p : Property) (n : ℕ) (l : Line) (t : Tally) → Sane t → Sane (with_line p n l t)
unfolding with_line
sane_line p n Nothing t h = h
sane_line p n Damaged t h = sane_spoilt n t h
sane_line p n (Range first last q) t h =
    by_test Sane (eqb (number_of q) (number_of p)) (with_range p n first last t) t (λ e. sane_range p n first last t h) (λ e. h)

-- THE LOOP OVER LINES
pub lines-on : (s : List ℕ) (p : Property) (at n : ℕ) (t : Tally) → n ≤ at → at < length s
    → lines_from (length s - (n + 1)) s p (line_at s at).next (n + 1) (with_line p (n + 1) (line_at s at).line t) ≡ lines_from (length s - n) s p at n t
unfolding lines_from
lines-on s p at n t l h =
    let e : length s - n ≡ suc (length s - (n + 1)) = omega arith in
    rw (e, lines_from, lt-ltb at (length s) h)

pub lines_end : (k : ℕ) (s : List ℕ) (p : Property) (at n : ℕ) (t : Tally) → length s ≤ at → t ≡ lines_from k s p at n t
unfolding lines_from
lines_end zero s p at n t h = refl
lines_end (suc k) s p at n t h = rw (lines_from, le-ltb at (length s) h)

-- AFTER THE LAST LINE what was noted stays
noted-stays : (first c : ℕ) (d : Bool) → (first ≡ end → ⊥) → noted first c d ≡ first
unfolding noted
noted-stays first c true h = rw (ne_eqb first end h)
noted-stays first c false h = refl

steps_first : (p : Property) (told : Bool) (n : ℕ) (t : Tally) → (t.first ≡ end → ⊥) → (steps_of p told n t).first ≡ t.first
unfolding steps_of step_of
steps_first p told zero t h = refl
steps_first p told (suc n) t h =
    let e = noted-stays t.first t.next (other (asked p t.next) (wanted p told t.next)) h in
    steps_first p told n (step_of p told t) (λ m. h (sym e ∙ m)) ∙ e

steps_damaged : (p : Property) (told : Bool) (n : ℕ) (t : Tally) → (steps_of p told n t).damaged ≡ t.damaged
unfolding steps_of step_of
steps_damaged p told zero t = refl
steps_damaged p told (suc n) t = steps_damaged p told n (step_of p told t)

-- a difference in a file's lines is the file's
pub tally-first : (s : List ℕ) (p : Property) (c : ℕ) → (of_lines s p).first ≡ c → c < end → (tally_of s p).first ≡ c
unfolding tally_of
tally-first s p c e l = steps_first p false (end - (of_lines s p).next) (of_lines s p) (λ m. omega arith) ∙ e

pub tally_damaged : (s : List ℕ) (p : Property) → (tally_of s p).damaged ≡ (of_lines s p).damaged
unfolding tally_of
tally_damaged s p = steps_damaged p false (end - (of_lines s p).next) (of_lines s p)
