-- Laws of the tests and of the reading, as the functions' proofs use them.
use Rattle.std.specs.Prelude.{Err}
use mathlib.Core.Path.{◌≡◌, refl, sym, ap, ◌∙◌}
use mathlib.Core.Bool.{Bool, true, false, ◌||◌}
use mathlib.Core.List.{List, [], ◌∷◌, ◌++◌, append_assoc, append-nil}
use Prim.Native.Nat.{ℕ, suc, ◌+◌, ◌≤◌, ◌<◌}
use native.Mathlib.Nat.{add-zero}
use native.Mathlib.Numerals.{add-one}
use native.Mathlib.Omega.{arith}
use lib.Dec.{eqb}
use lib.ListN.{length, get_or, take, drop, set, length-append, take-append-drop, drop_of_length-le}
use lib.Seq.{drop-cons, drop-drop, drop-set-lt, take-suc-set}
use borrow.Author.Tests.{leb-true}
use Rattle.record.specs.declared.Refusal.{Refusal}
use Rattle.escapes.specs.Escapes.{stands, Outcome, gives, refused, prepend, expand_from, expand, has_byte}
use Rattle.escapes.specs.Laws.{Turn, rest, rest_byte, rest-bad, rest_end}
use Rattle.escapes.specs.Passes.{fits, over}

-- one more byte is looked at for a backslash
or_assoc : (a b c : Bool) → a || (b || c) ≡ (a || b) || c
or_assoc true b c = refl
or_assoc false b c = refl

or-false : (a : Bool) → a || false ≡ a
or-false true = refl
or-false false = refl

pub has_next : (b : ℕ) (s : List ℕ) (i : ℕ) (m : Bool) → i < length s
    → m || has_byte b (drop i s) ≡ (m || eqb (get_or s i 0) b) || has_byte b (drop (i + 1) s)
unfolding has_byte
has_next b s i m l = rw (drop-cons s i 0 l, add-one i) (or_assoc m (eqb (get_or s i 0) b) (has_byte b (drop (suc i) s)))

pub has_end : (b : ℕ) (s : List ℕ) (i : ℕ) (m : Bool) → length s ≤ i → m || has_byte b (drop i s) ≡ m
unfolding has_byte
has_end b s i m l = rw (drop_of_length-le s l) (or-false m)

-- n bytes have been read up to i, those of acc
pub record Reached (s : List ℕ) (idx0 i n : ℕ) (acc : List ℕ) : Type 0 where
  pub same : expand s idx0 ≡ prepend acc (rest s idx0 i)
  pub few : n ≤ i
  pub count : length acc ≡ n

prepend-nil : (o : Outcome) → o ≡ prepend [] o
prepend-nil (gives l) = refl
prepend-nil (refused r) = refl

prepend-more : (p : List ℕ) (b : ℕ) (o : Outcome) → prepend p (prepend (b ∷ []) o) ≡ prepend (p ++ (b ∷ [])) o
prepend-more p b (gives l) = rw append_assoc
prepend-more p b (refused r) = refl

pub reach-start : (s : List ℕ) (idx0 : ℕ) → Reached s idx0 0 0 []
unfolding expand
reach-start s idx0 = record { same = rw (add-zero idx0) (prepend-nil (expand_from 0 s idx0)); few = omega arith; count = refl }

pub reach-end : {s : List ℕ} {idx0 i n : ℕ} {acc : List ℕ} → Reached s idx0 i n acc → length s ≤ i → expand s idx0 ≡ gives acc
reach-end {s} {idx0} {i} {n} {acc} r l = r.same ∙ rw (rest_end s idx0 i l) (rw (append-nil acc))

pub reach_byte : {s : List ℕ} {idx0 i n v w : ℕ} {acc : List ℕ} → Reached s idx0 i n acc → Turn s idx0 i v w → Reached s idx0 (i + w) (n + 1) (acc ++ (v ∷ []))
reach_byte {s} {idx0} {i} {n} {v} {w} {acc} r t =
    let f = r.few in
    let c = r.count in
    let m = t.moves in
    record {
      same = r.same ∙ rw (rest_byte t) (prepend-more acc v (rest s idx0 (i + w)));
      few = omega arith;
      count = simp length-append (omega arith);
    }

pub reach-bad : {s : List ℕ} {idx0 i n : ℕ} {acc : List ℕ} (x : Refusal) → Reached s idx0 i n acc → i < length s
    → stands (get_or s i 0) (drop (i + 1) s) (idx0 + i) ≡ Err x → expand s idx0 ≡ refused x
reach-bad {s} {idx0} {i} {n} {acc} x r l e = r.same ∙ rw (rest-bad s idx0 i x l e)

-- what fits has room for each of its first parts
fits-part : (p : List ℕ) (o : Outcome) (m : ℕ) → fits (prepend p o) m ≡ true → length p ≤ m
fits-part p (gives l) m e = omega (arith, leb-true (length (p ++ l)) m e, length-append p l)
fits-part p (refused r) m e = let z : ◌≡◌ {A = ℕ} 0 1 = cc in omega arith

pub one-part : {s : List ℕ} {idx0 i n : ℕ} {acc : List ℕ} (m : ℕ) → Reached s idx0 i n acc → fits (expand s idx0) m ≡ true → n ≤ m
one-part {s} {idx0} {i} {n} {acc} m r e =
    let f = fits-part acc (rest s idx0 i) m (rw r.same at e) in
    let c = r.count in
    omega arith

-- one more byte written
pub wrote : {s : List ℕ} {idx0 j : ℕ} (n : ℕ) (out : List ℕ) (b : ℕ) → n < length out → Reached s idx0 j (n + 1) (take n out ++ (b ∷ []))
    → Reached s idx0 j (n + 1) (take (n + 1) (set out n b))
wrote n out b l r = rw (add-one n, take-suc-set out n b l) (rw (add-one n) at r)

pub rest_wrote : (n : ℕ) (out d : List ℕ) (b : ℕ) → drop n out ≡ drop n d → drop (n + 1) (set out n b) ≡ drop (n + 1) d
rest_wrote n out d b e = drop-set-lt (n + 1) out n b (omega arith) ∙ sym (drop-drop 1 n out) ∙ ap (drop 1) e ∙ drop-drop 1 n d

-- all is written
pub all_wrote : {s : List ℕ} {idx0 i : ℕ} (n : ℕ) (out d : List ℕ) → Reached s idx0 i n (take n out) → drop n out ≡ drop n d → length s ≤ i → out ≡ over (expand s idx0) d
all_wrote n out d r e l = rw (reach-end r l, r.count, ← e) (sym (take-append-drop n out))
