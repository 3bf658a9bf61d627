-- That Utf8.antt reads what RFC 3629 writes, and nothing else. The theorems stand at the end, from THEOREMS on.
use Rattle.std.specs.Prelude.{ℕ, zero, suc, ◌+◌, ◌≤◌, ◌<◌, ◌≡◌, refl, true, List, [], ◌∷◌, ◌++◌, length, take, drop, Option, Some, None, Ok, Err}
use Rattle.std.proofs.Common.{sym, ap, ◌∙◌, append_assoc, append-nil, arith, length-append, drop_of_length-le, drop_at, take_at, drop-drop, eq-eqb}
use Rattle.utf8.specs.Utf8.{sight, sight_at, chars, chars_from, width_of, reach, verdict}
use Rattle.utf8.specs.Encode.{is_scalar, are_scalars, encode, encode_all}
use Rattle.utf8.proofs.Forms.{Form, form, written-seen}
use Rattle.utf8.specs.Forms.{written-width}
use Rattle.utf8.proofs.Laws.{seen, bad_place}
use Rattle.utf8.specs.Laws.{both, Seen, ended, sight_past, reach_step, reach-end, valid_whole}

-- a character that was written is read, and the rest after it
next-read : (c : ℕ) (r : List ℕ) → is_scalar c ≡ true → chars (encode c ++ r) ≡ c ∷ chars r
unfolding sight_at
next-read c r e =
    (seen (encode c ++ r) 0 c (width_of c) (written-seen c r e)).next
    ∙ ap (λ (l : List ℕ). c ∷ chars l) (drop_at (encode c) r (0 + width_of c) (omega (arith, written-width c)))

-- the place after the characters is the length of their bytes
reach-length : (cs : List ℕ) (at : ℕ) → reach cs at ≡ at + length (encode_all cs)
unfolding reach encode_all
reach-length [] at = omega arith
reach-length (c ∷ cs) at =
    let e : at + width_of c + length (encode_all cs) ≡ at + length (encode c ++ encode_all cs) =
    omega (arith, length-append (encode c) (encode_all cs), written-width c)
    in
    reach-length cs (at + width_of c) ∙ e

-- what is read from a place on, up to the place that reading comes to
record Front (s : List ℕ) (at : ℕ) : Type 0 where
  bytes : encode_all (chars (drop at s)) ++ drop (reach (chars (drop at s)) at) s ≡ drop at s
  scalars : are_scalars (chars (drop at s)) ≡ true
  ends : sight_at s (reach (chars (drop at s)) at) ≡ None

front-end : (s : List ℕ) (at : ℕ) → sight_at s at ≡ None → Front s at
unfolding encode_all are_scalars
front-end s at e =
    let h = ended s at e in
    record {
      bytes = rw (reach-end s at h, h.none);
      scalars = rw h.none;
      ends = rw (reach-end s at h) e;
    }

front-step : (s : List ℕ) (at k w : ℕ) → sight_at s at ≡ Some (k, w) → Front s (at + w) → Front s at
unfolding sight_at encode_all are_scalars
front-step s at k w e r =
    let h : Seen s at k w = seen s at k w e in
    let f : Form (drop at s) k w = form (drop at s) k w e in
    record {
      bytes = rw (reach_step s at k w h, h.next) (rw (append_assoc, r.bytes, ← (drop-drop w at s)) f.bytes);
      scalars = rw (h.next, f.scalar) r.scalars;
      ends = rw (reach_step s at k w h) r.ends;
    }

front-from : (n : ℕ) (s : List ℕ) (at : ℕ) → length s ≤ at + n → Front s at
front-from zero s at l = front-end s at (sight_past s at (omega arith))
front-from (suc n) s at l = go (sight_at s at) refl (λ w m. front-from n s (at + w) (omega arith))
  where
    go : (x : Option (ℕ × ℕ)) → sight_at s at ≡ x → ((w : ℕ) → 0 < w → Front s (at + w)) → Front s at
    go None e f = front-end s at e
    go (Some (k, w)) e f = front-step s at k w e (f w (seen s at k w e).moves)

front : (s : List ℕ) → Front s 0
front s = front-from (length s) s 0 (omega arith)

-- THEOREMS
-- 1. The bytes of a scalar value are read as that value, whatever stands after them.
pub read_one : (c : ℕ) (s : List ℕ) → is_scalar c ≡ true → sight (encode c ++ s) ≡ Some (c, width_of c)
read_one c s e = written-seen c s e

pub width_one : (c : ℕ) → length (encode c) ≡ width_of c
width_one c = written-width c

-- 2. The bytes of a list of scalar values are well formed, and read as that list.
pub read_back : (cs : List ℕ) → are_scalars cs ≡ true → chars (encode_all cs) ≡ cs
unfolding are_scalars encode_all chars chars_from
read_back [] e = refl
read_back (c ∷ cs) e =
    let b = both (is_scalar c) (are_scalars cs) e in
    next-read c (encode_all cs) b.0 ∙ ap (λ (l : List ℕ). c ∷ l) (read_back cs b.1)

pub written_valid : (cs : List ℕ) → are_scalars cs ≡ true → verdict (encode_all cs) ≡ Ok tt
written_valid cs e =
    let r : reach (chars (encode_all cs)) 0 ≡ reach cs 0 = ap (λ (l : List ℕ). reach l 0) (read_back cs e) in
    rw (eq-eqb (reach (chars (encode_all cs)) 0) (length (encode_all cs)) (omega (arith, r, reach-length cs 0)))

-- 3. What is read is scalar values alone (no surrogate, nothing above 10FFFF), and a well_formed_lem text is exactly their bytes (no overlong form).
pub only_scalars : (s : List ℕ) → are_scalars (chars s) ≡ true
only_scalars s = (front s).scalars

pub write-back : (s : List ℕ) → verdict s ≡ (Ok tt) → encode_all (chars s) ≡ s
write-back s v =
    let l : length s ≤ reach (chars s) 0 = omega (arith, valid_whole s v) in
    let d : drop (reach (chars s) 0) s ≡ [] = drop_of_length-le s l in
    sym (append-nil (encode_all (chars s))) ∙ (rw d at (front s).bytes)

-- 4. A refused text: up to the place named it is the bytes of what was read, and no scalar value's bytes start at that place.
pub record Fault (s : List ℕ) (p : ℕ) : Type 0 where
  pub within : p < length s
  pub before : take p s ≡ encode_all (chars s)
  pub none : (c : ℕ) (r : List ℕ) → is_scalar c ≡ true → drop p s ≡ encode c ++ r → ⊥

pub first_fault : (s : List ℕ) (p : ℕ) → verdict s ≡ Err p → Fault s p
unfolding sight_at
first_fault s p e =
    let b = bad_place s p e in
    let f : encode_all (chars s) ++ drop p s ≡ s = rw b.0 at (front s).bytes in
    let l : length (encode_all (chars s)) ≡ p = omega (arith, b, reach-length (chars s) 0) in
    let o : sight (drop p s) ≡ None = rw b.0 at (front s).ends in
    record {
      within = b.1;
      before = ap (take p) (sym f) ∙ take_at (encode_all (chars s)) (drop p s) p l;
      none = λ c r k q. let h : sight (encode c ++ r) ≡ Some (c, width_of c) = written-seen c r k in let z : ◌≡◌ {A = ℕ} 0 1 = cc in omega arith;
    }
