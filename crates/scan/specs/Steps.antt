-- The readers' steps: a step goes at most one deeper, and the character that ends a reading is one byte wide.
use Rattle.std.specs.Prelude.{◌+◌, ◌-◌, ◌≤◌, ℕ, Bool, cond, false, true, ◌≡◌, refl, eqb}
use Rattle.std.proofs.Common.{arith, ◌∙◌, ap, sym, eqb-true}
use Rattle.utf8.specs.Utf8.{width_of}
use Rattle.scan.specs.Readers.{com_done, com_step, depth_of, reg_done, reg_step, str_done, str_step}
use Rattle.scan.specs.declared.Com.{Com}
use Rattle.scan.specs.declared.Com.TheVariants.{Complete, Open, Slash, Star}
use Rattle.scan.specs.declared.Str.{Str}
use Rattle.scan.specs.declared.Str.TheVariants.{Closed, Escaped, Plain}

-- a step goes at most one deeper, or counts at most one more
le_same : (d : ℕ) → d ≤ d + 1
le_same d = omega arith

le-more : (d : ℕ) → d + 1 ≤ d + 1
le-more d = omega arith

le_less : (d : ℕ) → d - 1 ≤ d + 1
le_less d = omega arith

le-none : (d : ℕ) → 0 ≤ d + 1
le-none d = omega arith

le-one : (d : ℕ) → 1 ≤ d + 1
le-one d = omega arith

depth-test : (m : ℕ) (t : Bool) (x y : Com) → depth_of x ≤ m → depth_of y ≤ m → depth_of (cond t x y) ≤ m
depth-test m true x y p q = p
depth-test m false x y p q = q

pub com_depth : (st : Com) (c : ℕ) → depth_of (com_step st c) ≤ depth_of st + 1
com_depth (Open d) c = search (depth-test, le_same)
com_depth (Slash d) c = search (depth-test, le_same, le-more)
com_depth (Star d) c = search (depth-test, le_same, le_less, le-none)
com_depth Complete c = omega arith

most-test : (m : ℕ) (t : Bool) (x y : ℕ) → x ≤ m → y ≤ m → cond t x y ≤ m
most-test m true x y p q = p
most-test m false x y p q = q

pub reg_less : (st c : ℕ) → reg_step st c ≤ st + 1
reg_less st c = search (most-test, le-more, le-none, le-one)

-- the character that ends a reading is one byte wide
record Narrow {S : Type 0} (done : S → Bool) (k : ℕ) (x : S) : Type 0 where
  is : done x ≡ true → width_of k ≡ 1

module _ {S : Type 0} (done : S → Bool) (k : ℕ) where
  narrow_test : (t : Bool) (x y : S) → (t ≡ true → Narrow done k x) → (t ≡ false → Narrow done k y) → Narrow done k (cond t x y)
  narrow_test true x y f g = f refl
  narrow_test false x y f g = g refl

  narrow_not : (x : S) → done x ≡ false → Narrow done k x
  narrow_not x e = record { is = λ q. let z : true ≡ false = sym q ∙ e in let w : ◌≡◌ {A = ℕ} 0 1 = cc in absurd (omega arith) }

  narrow_eq : (j : ℕ) (x : S) → eqb k j ≡ true → width_of j ≡ 1 → Narrow done k x
  narrow_eq j x e f = record { is = λ _. ap width_of (eqb-true k j e) ∙ f }

ruleset narrowing = (narrow_test, narrow_not, narrow_eq)

str_n : (q : ℕ) → width_of q ≡ 1 → (st : Str) (k : ℕ) → str_done st ≡ false → Narrow str_done k (str_step q st k)
str_n q w Plain k b = search narrowing
str_n q w Escaped k b = search narrowing
str_n q w Closed k b = search narrowing

com_n : (st : Com) (k : ℕ) → com_done st ≡ false → Narrow com_done k (com_step st k)
unfolding width_of
com_n (Open d) k b = search narrowing
com_n (Slash d) k b = search narrowing
com_n (Star d) k b = search narrowing depth 8
com_n Complete k b = search narrowing

reg_n : (h st k : ℕ) → Narrow (reg_done h) k (reg_step st k)
unfolding width_of
reg_n h st k = search narrowing depth 8

pub str_narrow : (q : ℕ) → width_of q ≡ 1 → (st : Str) (k : ℕ) → str_done st ≡ false → str_done (str_step q st k) ≡ true → width_of k ≡ 1
str_narrow q w st k b e = (str_n q w st k b).is e

pub com_narrow : (st : Com) (k : ℕ) → com_done st ≡ false → com_done (com_step st k) ≡ true → width_of k ≡ 1
com_narrow st k b e = (com_n st k b).is e

pub reg_narrow : (h st k : ℕ) → reg_done h st ≡ false → reg_done h (reg_step st k) ≡ true → width_of k ≡ 1
reg_narrow h st k b e = (reg_n h st k).is e
