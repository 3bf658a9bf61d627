-- The laws of UTF-8 reading that rest on the forms of a character; `Seen`, `Ended` and `Whole`, and the laws that do not, are in specs/Laws.antt.
use Rattle.std.specs.Prelude.{ℕ, zero, suc, ◌+◌, ◌-◌, ◌≤◌, ◌<◌, ◌≡◌, refl, Bool, true, false, ◌&&◌, List, ◌∷◌, ltb, eqb, length, get_or, drop, Option, Some, None, Ok, Err}
use Rattle.std.proofs.Common.{sym, ap, subst, ◌∙◌, arith, length-drop, get_or-drop, drop-drop, lt-ltb, eq-eqb, ne_eqb, ltb-true}
use Rattle.utf8.specs.Utf8.{sight_at, chars, reach, verdict, boundary}
use Rattle.utf8.proofs.Forms.{Form, form}
use Rattle.utf8.specs.Picks.{tests}
use Rattle.utf8.specs.Laws.{sight_past, sight_in, sight_ascii, both, skip, uncons, Seen, ended, reach_step, reach-end, heads, Whole, whole-step, valid_whole, tail-no-boundary, boundary-within}

pub seen : (s : List ℕ) (at k w : ℕ) → sight_at s at ≡ Some (k, w) → Seen s at k w
unfolding sight_at
seen s at k w e =
    let o : Form (drop at s) k w = form (drop at s) k w e in
    let l : length (drop at s) ≡ length s - at = length-drop at s in
    let q : at + (1 + (w - 1)) ≡ at + w = omega arith in
    record {
      width = o.width;
      room = omega arith;
      moves = o.moves;
      next =
          uncons (drop at s) k w e
          ∙ ap (λ (r : List ℕ). k ∷ r)
          (skip (w - 1) (drop 1 (drop at s))
          ∙ ap chars (drop-drop (w - 1) 1 (drop at s) ∙ drop-drop (1 + (w - 1)) at s ∙ ap (λ (n : ℕ). drop n s) q));
    }

pub bounded : (s : List ℕ) (at : ℕ) → at ≤ length s → Whole s at → boundary s at ≡ true
bounded s at r o = go (sight_at s at) refl
  where
    go : (x : Option (ℕ × ℕ)) → sight_at s at ≡ x → boundary s at ≡ true
    go None e = rw (eq-eqb at (length s) (sym (reach-end s at (ended s at e)) ∙ o))
    go (Some (k, w)) e =
        let h : Seen s at k w = seen s at k w e in
        let i : at < length s = omega arith in
        rw (ne_eqb at (length s) (omega arith), lt-ltb at (length s) i) (heads _ _ _ _ _ _ k w (sym (sight_in s at i) ∙ e))

-- bytes below 128 are passed one by one
pub ascii_step : (s : List ℕ) (i : ℕ) (m : Bool) → i < length s → (m ≡ true → reach (chars (drop i s)) i ≡ reach (chars s) 0)
    → (m && ltb (get_or s i 0) 0x80) ≡ true → reach (chars (drop (i + 1) s)) (i + 1) ≡ reach (chars s) 0
ascii_step s i m l h t =
    let b = both m (ltb (get_or s i 0) 0x80) t in
    sym (reach_step s i (get_or s i 0) 1 (seen s i (get_or s i 0) 1 (sym (sight_ascii s i l (ltb-true _ _ b.1))))) ∙ h b.0

-- the place that reading comes to lies in the text
reach-from : (n : ℕ) (s : List ℕ) (at : ℕ) → length s ≤ at + n → at ≤ length s → reach (chars (drop at s)) at ≤ length s
reach-from zero s at l r = rw (reach-end s at (ended s at (sight_past s at (omega arith)))) r
reach-from (suc n) s at l r = go (sight_at s at) refl (λ w m o. reach-from n s (at + w) (omega arith) o)
  where
    go : (x : Option (ℕ × ℕ)) → sight_at s at ≡ x → ((w : ℕ) → 0 < w → at + w ≤ length s → reach (chars (drop (at + w) s)) (at + w) ≤ length s)
        → reach (chars (drop at s)) at ≤ length s
    go None e f = rw (reach-end s at (ended s at e)) r
    go (Some (k, w)) e f = let h : Seen s at k w = seen s at k w e in rw (reach_step s at k w h) (f w h.moves h.room)

-- a refused text: the place named is where reading came to, and that is not the end
pub bad_place : (s : List ℕ) (p : ℕ) → verdict s ≡ Err p → (reach (chars s) 0 ≡ p) × (p < length s)
bad_place s p e = go (eqb (reach (chars s) 0) (length s)) refl
  where
    go : (t : Bool) → eqb (reach (chars s) 0) (length s) ≡ t → (reach (chars s) 0 ≡ p) × (p < length s)
    go true q = let e' : (Ok tt) ≡ Err p = rw q at e in let z : ◌≡◌ {A = ℕ} 0 1 = cc in absurd (omega arith)
    go false q =
        let e' : Err (reach (chars s) 0) ≡ Err p = rw q at e in
        let i : reach (chars s) 0 ≡ p = cc in
        let b : reach (chars s) 0 ≤ length s = reach-from (length s) s 0 (omega arith) (omega arith) in
        (i, omega tests)

pub bad-within : (s : List ℕ) (p : ℕ) → verdict s ≡ Err p → p ≤ length s
bad-within s p e = omega (arith, bad_place s p e)

pub inside : (s : List ℕ) (at k w i : ℕ) → sight_at s at ≡ Some (k, w) → at < i → i < at + w → boundary s i ≡ false
unfolding sight_at
inside s at k w i e p q =
    let f : Form (drop at s) k w = form (drop at s) k w e in
    let j : at + (i - at) ≡ i = omega arith in
    let l : length (drop at s) ≡ length s - at = length-drop at s in
    let b : get_or (drop at s) (i - at) 0 ≡ get_or s i 0 = get_or-drop at s (i - at) 0 ∙ ap (λ (n : ℕ). get_or s n 0) j in
    tail-no-boundary s i (omega arith) (rw b at (f.tails (i - at) (omega arith) (omega arith)))

-- a step does not pass a boundary
step-short : (s : List ℕ) (at p k w : ℕ) → sight_at s at ≡ Some (k, w) → at < p → boundary s p ≡ true → at + w ≤ p
step-short s at p k w e l b = go (ltb p (at + w)) refl
  where
    go : (t : Bool) → ltb p (at + w) ≡ t → at + w ≤ p
    go true q = let f : false ≡ true = sym (inside s at k w p e l (omega tests)) ∙ b in let z : ◌≡◌ {A = ℕ} 0 1 = cc in absurd (omega arith)
    go false q = omega tests

boundary-from : (n : ℕ) (s : List ℕ) (at p : ℕ) → p ≤ at + n → at ≤ p → boundary s p ≡ true → Whole s at → Whole s p
boundary-from zero s at p l r b o = let e : at ≡ p = omega arith in subst (Whole s) e o
boundary-from (suc n) s at p l r b o =
    go (ltb at p) (sight_at s at) refl refl (λ k w h q. boundary-from n s (at + w) p (omega arith) q b (whole-step s at k w h o))
  where
    go : (t : Bool) (x : Option (ℕ × ℕ)) → ltb at p ≡ t → sight_at s at ≡ x → ((k w : ℕ) → Seen s at k w → at + w ≤ p → Whole s p) → Whole s p
    go false x q e f = let m : at ≡ p = omega tests in subst (Whole s) m o
    go true None q e f =
        let m : at ≡ length s = sym (reach-end s at (ended s at e)) ∙ o in
        absurd (omega (tests, boundary-within s p b))
    go true (Some (k, w)) q e f =
        let h : Seen s at k w = seen s at k w e in
        f k w h (step-short s at p k w e (omega tests) b)

pub boundary-whole : (s : List ℕ) (p : ℕ) → verdict s ≡ (Ok tt) → boundary s p ≡ true → Whole s p
boundary-whole s p v b = boundary-from p s 0 p (omega arith) (omega arith) b (valid_whole s v)
