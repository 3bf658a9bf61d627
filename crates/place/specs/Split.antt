-- The characters of a well_formed_lem text before a boundary, and those after it.
use Rattle.std.specs.Prelude.{ℕ, zero, suc, ◌+◌, ◌-◌, ◌≤◌, ◌<◌, ◌≡◌, refl, Bool, false, eqb, ltb, length, drop, Option, Some, None, Ok}
use Rattle.std.proofs.Common.{sym, subst, ◌∙◌}
use Rattle.std.proofs.Math.Path.{ap}
use Rattle.std.proofs.Math.Bool.{true}
use mathlib.Core.List.{List, [], ◌∷◌, ◌++◌}
use native.Mathlib.Omega.{arith}
use borrow.Author.Tests.{eqb-true, lt-ltb, ne_eqb}
use Rattle.std.proofs.Math.ListN.{get_or}
use Rattle.utf8.specs.Chars.{'carriage_return}
use Rattle.utf8.proofs.Laws.{boundary-whole, inside, seen}
use Rattle.utf8.specs.Laws.{Seen, Whole, ended, reach-end, valid_whole, whole-step}
use Rattle.utf8.specs.Picks.{tests}
use Rattle.utf8.specs.Utf8.{boundary, chars, sight_at, verdict, width_of}
use Rattle.place.specs.Back.{ends_return, size}
use Rattle.place.specs.Order.{reach_least}
use Rattle.place.specs.First.{first-tells}

pub record Split (s : List ℕ) (at p : ℕ) : Type 0 where
  pub front : List ℕ
  pub joined : chars (drop at s) ≡ front ++ chars (drop p s)
  pub bytes : at + size front ≡ p
  pub last : ends_return front ≡ true → get_or s (p - 1) 0 ≡ 'carriage_return

split_here : (s : List ℕ) (at p : ℕ) → at ≡ p → Split s at p
unfolding size ends_return
split_here s at p e =
    record {
      front = [];
      joined = rw e;
      bytes = omega arith;
      last = λ h. let z : ◌≡◌ {A = ℕ} 0 1 = cc in absurd (omega arith);
    }

module _ (s : List ℕ) (at p k w : ℕ) (e : sight_at s at ≡ Some (k, w)) where
  split_last : (xs : List ℕ) → at + w + size xs ≡ p → (ends_return xs ≡ true → get_or s (p - 1) 0 ≡ 'carriage_return) → ends_return (k ∷ xs) ≡ true
      → get_or s (p - 1) 0 ≡ 'carriage_return
  unfolding size ends_return width_of
  split_last [] b f h =
      let c : k ≡ 'carriage_return = eqb-true k 'carriage_return h in
      let d : w ≡ 1 = (seen s at k w e).width ∙ ap width_of c in
      let q : p - 1 ≡ at = omega arith in
      rw q (eqb-true _ _ ((first-tells s at k w e).same 'carriage_return (omega arith) ∙ h))
  split_last (x ∷ xs) b f h = f h

  split_on : Split s (at + w) p → Split s at p
  unfolding size
  split_on r =
      let h : Seen s at k w = seen s at k w e in
      record {
        front = k ∷ r.front;
        joined = h.next ∙ ap (λ (l : List ℕ). k ∷ l) r.joined;
        bytes = omega (arith, h, r.bytes);
        last = split_last r.front r.bytes r.last;
      }

split_from : (n : ℕ) (s : List ℕ) (at p : ℕ) → p ≤ at + n → at ≤ p → p ≤ length s → boundary s p ≡ true → Whole s at → Split s at p
split_from zero s at p l r i b o = split_here s at p (omega arith)
split_from (suc n) s at p l r i b o =
    go (ltb at p) (sight_at s at) refl refl (λ k w h q. split_from n s (at + w) p (omega (arith, h)) q i b (whole-step s at k w h o))
  where
    short : (k w : ℕ) → sight_at s at ≡ Some (k, w) → at < p → (t : Bool) → ltb p (at + w) ≡ t → at + w ≤ p
    short k w e h true q = let f : false ≡ true = sym (inside s at k w p e h (omega tests)) ∙ b in let z : ◌≡◌ {A = ℕ} 0 1 = cc in absurd (omega arith)
    short k w e h false q = omega tests

    go : (t : Bool) (x : Option (ℕ × ℕ)) → ltb at p ≡ t → sight_at s at ≡ x → ((k w : ℕ) → Seen s at k w → at + w ≤ p → Split s (at + w) p) → Split s at p
    go false x q e f = split_here s at p (omega tests)
    go true None q e f = absurd (omega (tests, reach-end s at (ended s at e), o))
    go true (Some (k, w)) q e f = split_on s at p k w e (f k w (seen s at k w e) (short k w e (omega tests) (ltb p (at + w)) refl))

-- a boundary lies in the text
within : (s : List ℕ) (p : ℕ) → verdict s ≡ Ok tt → boundary s p ≡ true → p ≤ length s
within s p v b = omega (arith, reach_least (chars (drop p s)) p, boundary-whole s p v b)

pub split : (s : List ℕ) (p : ℕ) → verdict s ≡ Ok tt → boundary s p ≡ true → Split s 0 p
split s p v b = split_from p s 0 p (omega arith) (omega arith) (within s p v b) b (valid_whole s v)

-- ---- and the other way: where characters stand, their bytes end at a boundary
pub record Stands (s : List ℕ) (p : ℕ) (xs ys : List ℕ) : Type 0 where
  pub within_it : p ≤ length s
  pub whole : Whole s p
  pub rest : chars (drop p s) ≡ ys
  pub last : get_or s (p - 1) 0 ≡ 'carriage_return → 0 < length xs → ends_return xs ≡ true

module _ (s : List ℕ) (at k w : ℕ) (e : sight_at s at ≡ Some (k, w)) where
  -- the last byte of a character is a CR only if the character is
  ends_byte : get_or s (at + w - 1) 0 ≡ 'carriage_return → eqb k 'carriage_return ≡ true
  ends_byte c = go (eqb w 1) refl
    where
      h : Seen s at k w
      h = seen s at k w e

      go : (t : Bool) → eqb w 1 ≡ t → eqb k 'carriage_return ≡ true
      go true q =
          let j : at + w - 1 ≡ at = omega tests in
          let a : get_or s at 0 ≡ 'carriage_return = rw j at c in
          sym ((first-tells s at k w e).same 'carriage_return (omega arith)) ∙ rw a refl
      go false q =
          let f : boundary s (at + w - 1) ≡ false = inside s at k w (at + w - 1) e (omega (tests, h)) (omega (tests, h)) in
          let g : boundary s (at + w - 1) ≡ true = rw (c, ne_eqb (at + w - 1) (length s) (omega (arith, h)), lt-ltb (at + w - 1) (length s) (omega (arith, h))) refl in
          let z : ◌≡◌ {A = ℕ} 0 1 = cc in
          absurd (omega arith)

  stands_on : (xs ys : List ℕ) → Stands s (at + w + size xs) xs ys → Stands s (at + w + size xs) (k ∷ xs) ys
  unfolding size ends_return
  stands_on xs ys r = record { within_it = r.within_it; whole = r.whole; rest = r.rest; last = λ c h. by xs r c }
    where
      by : (zs : List ℕ) → Stands s (at + w + size zs) zs ys → get_or s (at + w + size zs - 1) 0 ≡ 'carriage_return → ends_return (k ∷ zs) ≡ true
      by [] q c = let j : at + w + 0 - 1 ≡ at + w - 1 = omega arith in ends_byte (rw j at c)
      by (z ∷ zs) q c = q.last c (omega arith)

stands_from : (xs ys s : List ℕ) (at : ℕ) → at ≤ length s → Whole s at → chars (drop at s) ≡ xs ++ ys → Stands s (at + size xs) xs ys
unfolding size ends_return
stands_from [] ys s at l o e =
    let z : at + 0 ≡ at = omega arith in
    record { within_it = omega arith; whole = rw z o; rest = rw z e; last = λ c h. absurd (omega arith) }
stands_from (x ∷ xs) ys s at l o e = go (sight_at s at) refl (λ w h q. stands_from xs ys s (at + w) (omega (arith, h)) (whole-step s at x w h o) q)
  where
    go : (y : Option (ℕ × ℕ)) → sight_at s at ≡ y → ((w : ℕ) → Seen s at x w → chars (drop (at + w) s) ≡ xs ++ ys → Stands s (at + w + size xs) xs ys)
        → Stands s (at + (width_of x + size xs)) (x ∷ xs) ys
    go None q f = let z : [] ≡ x ∷ (xs ++ ys) = sym (ended s at q).none ∙ e in let w : ◌≡◌ {A = ℕ} 0 1 = cc in absurd (omega arith)
    go (Some (k, w)) q f =
        let h : Seen s at k w = seen s at k w q in
        let n : k ∷ chars (drop (at + w) s) ≡ x ∷ (xs ++ ys) = sym h.next ∙ e in
        let i : k ≡ x = cc in
        let j : chars (drop (at + w) s) ≡ xs ++ ys = cc in
        let o : Seen s at x w = subst (λ (c : ℕ). Seen s at c w) i h in
        let m : at + w + size xs ≡ at + (width_of x + size xs) = omega (arith, o) in
        rw (← m, ← i) (stands_on s at k w q xs ys (f w o j))

pub stands : (s xs ys : List ℕ) → verdict s ≡ Ok tt → chars s ≡ xs ++ ys → Stands s (size xs) xs ys
stands s xs ys v e =
    let z : 0 + size xs ≡ size xs = omega arith in
    rw z at (stands_from xs ys s 0 (omega arith) (valid_whole s v) e)
