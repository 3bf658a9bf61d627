-- WHAT A BLOCK COMMENT SPANS, said without its reader. 01: "nested `/* */`. In `/*/` the slash doesn't close. After a nested open or close, neither its star
-- nor its slash starts another mark." `Comment` (reading/specs/Blank) says which characters after the opening mark are a comment: its marks balance, and
-- the last of them is its end.
use Rattle.std.specs.Prelude.{ℕ, suc, ◌+◌, ◌-◌, Bool, cond, ◌≡◌, ltb, drop, length, take, Ok, Err}
use Rattle.std.proofs.Common.{arith, sym, ◌∙◌, take-append-drop, le-ltb}
use Rattle.std.proofs.Math.Bool.{false, true}
use mathlib.Core.List.{List, [], ◌∷◌, ◌++◌}
use Rattle.std.proofs.Math.Path.{refl, ap}
use Rattle.std.proofs.Math.Dec.{eqb}
use Rattle.utf8.specs.Utf8.{width_of}
use Rattle.record.specs.Records.{refusal}
use Rattle.record.specs.declared.Code.TheVariants.{UnterminatedBlockComment}
use Rattle.record.specs.declared.Refusal.{Refusal}
use Rattle.scan.specs.Far.{Far, after}
use Rattle.scan.specs.IfNext.{if_next}
use Rattle.scan.specs.Passes.{block_sound}
use Rattle.scan.specs.Readers.{com_done, com_step, comment_end}
use Rattle.scan.specs.Seek.{block_comment}
use Rattle.scan.specs.Until.{until}
use Rattle.scan.specs.declared.Com.{Com}
use Rattle.scan.specs.declared.Com.TheVariants.{Complete, Open, Slash, Star}
use Rattle.scan.specs.Shapes.{Found, Skip, same_ok}
use Rattle.reading.specs.Blank.{Comment, closes, ends, is_mark, opens, passes}
use Rattle.reading.specs.Blanks.{comment_blank}
use Rattle.spans.specs.Strings.{goes_on, stops}

-- the reader ends with the last of these characters
pub record EndsWith (st : Com) (xs rest : List ℕ) (at n : ℕ) : Type 0 where
  pub place : ℕ
  pub count : ℕ
  pub found : until com_step com_done st (xs ++ rest) at n ≡ Ok (place, count)
  pub counted : suc count ≡ n + length xs

module _ (st st' : Com) (c : ℕ) (xs rest : List ℕ) (at n : ℕ) where
  -- one character on
  one_on : com_step st c ≡ st' → com_done st' ≡ false → EndsWith st' xs rest (at + width_of c) (n + 1) → EndsWith st (c ∷ xs) rest at n
  one_on e d h =
      let y = h.counted in
      record { place = h.place; count = h.count; found = goes_on com_step com_done c (xs ++ rest) at n st st' e d ∙ h.found; counted = omega arith }

-- after a star that starts no mark, or a slash, the reader goes on as after any other character
module _ (d : ℕ) (c : ℕ) (xs rest : List ℕ) (at n : ℕ) where
  same-until : (st : Com) → com_step st c ≡ com_step (Open d) c → until com_step com_done st (c ∷ (xs ++ rest)) at n ≡ until com_step com_done (Open d) (c ∷ (xs ++ rest)) at n
  unfolding until
  same-until st e = ap (λ (x : Com). elim (com_done x) [ true ↦ Ok (at, n) | false ↦ until com_step com_done x (xs ++ rest) (at + width_of c) (n + 1) ]) e

  same_step : (st : Com) → com_step st c ≡ com_step (Open d) c → EndsWith (Open d) (c ∷ xs) rest at n → EndsWith st (c ∷ xs) rest at n
  same_step st e h = record { place = h.place; count = h.count; found = same-until st e ∙ h.found; counted = h.counted }

  as_star : eqb c 47 ≡ false → EndsWith (Open d) (c ∷ xs) rest at n → EndsWith (Star d) (c ∷ xs) rest at n
  as_star q h = same_step (Star d) (rw q) h

  as_slash : eqb c 42 ≡ false → EndsWith (Open d) (c ∷ xs) rest at n → EndsWith (Slash d) (c ∷ xs) rest at n
  as_slash q h = same_step (Slash d) (rw q) h

-- ---- a comment is found whole: by its last mark, its inner marks, and the characters that are none
star_slash : (d : ℕ) (xs rest : List ℕ) (at n : ℕ) → ltb d 2 ≡ false → EndsWith (Open (d - 1)) xs rest (at + width_of 42 + width_of 47) (n + 1 + 1) → EndsWith (Open d) (42 ∷ 47 ∷ xs) rest at n
star_slash d xs rest at n l h =
    one_on (Open d) (Star d) 42 (47 ∷ xs) rest at n refl refl (one_on (Star d) (Open (d - 1)) 47 xs rest (at + width_of 42) (n + 1) (rw l) refl h)

slash_star : (d : ℕ) (xs rest : List ℕ) (at n : ℕ) → EndsWith (Open (d + 1)) xs rest (at + width_of 47 + width_of 42) (n + 1 + 1) → EndsWith (Open d) (47 ∷ 42 ∷ xs) rest at n
slash_star d xs rest at n h =
    one_on (Open d) (Slash d) 47 (42 ∷ xs) rest at n refl refl (one_on (Slash d) (Open (d + 1)) 42 xs rest (at + width_of 47) (n + 1) refl refl h)

-- a comment isn't empty
pub some : {d : ℕ} {xs : List ℕ} → Comment d xs → xs ≡ [] → ⊥
some ends e = let w : ◌≡◌ {A = ℕ} 0 1 = cc in omega arith
some (closes h) e = let w : ◌≡◌ {A = ℕ} 0 1 = cc in omega arith
some (opens h) e = let w : ◌≡◌ {A = ℕ} 0 1 = cc in omega arith
some (passes c m h) e = let w : ◌≡◌ {A = ℕ} 0 1 = cc in omega arith

-- a character that starts no mark, before the characters xs of a comment
module _ (d c : ℕ) (rest : List ℕ) (at n : ℕ) where
  test : (b : Bool) → cond b true false ≡ false → b ≡ false
  test true e = e
  test false e = refl

  pass : (xs : List ℕ) → (xs ≡ [] → ⊥) → is_mark c xs ≡ false → EndsWith (Open d) xs rest (at + width_of c) (n + 1) → EndsWith (Open d) (c ∷ xs) rest at n
  unfolding is_mark if_next
  pass [] k m h = absurd (k refl)
  pass (x ∷ xs) k m h = go (eqb c 42) (eqb c 47) refl refl
    where
      go : (a b : Bool) → eqb c 42 ≡ a → eqb c 47 ≡ b → EndsWith (Open d) (c ∷ x ∷ xs) rest at n
      go true b p q =
          let g : eqb x 47 ≡ false = test (eqb x 47) (rw p at m) in
          one_on (Open d) (Star d) c (x ∷ xs) rest at n (rw p) refl (as_star d x xs rest (at + width_of c) (n + 1) g h)
      go false true p q =
          let g : eqb x 42 ≡ false = test (eqb x 42) (rw (p, q) at m) in
          one_on (Open d) (Slash d) c (x ∷ xs) rest at n (rw (p, q)) refl (as_slash d x xs rest (at + width_of c) (n + 1) g h)
      go false false p q = one_on (Open d) (Open d) c (x ∷ xs) rest at n (rw (p, q)) refl h

whole : {d : ℕ} {xs : List ℕ} → Comment d xs → (rest : List ℕ) (at n : ℕ) → EndsWith (Open d) xs rest at n
whole ends rest at n =
    record {
      place = at + width_of 42;
      count = n + 1;
      found = goes_on com_step com_done 42 (47 ∷ rest) at n (Open 1) (Star 1) refl refl ∙ stops com_step com_done 47 rest (at + width_of 42) (n + 1) (Star 1) Complete refl refl;
      counted = omega arith;
    }
whole (closes {d} {xs} h) rest at n =
    let z : suc d ≡ suc (suc d) - 1 = omega arith in
    star_slash (suc (suc d)) xs rest at n (le-ltb (suc (suc d)) 2 (omega arith)) (rw z at (whole h rest (at + width_of 42 + width_of 47) (n + 1 + 1)))
whole (opens {d} {xs} h) rest at n =
    let z : suc d ≡ d + 1 = omega arith in
    slash_star d xs rest at n (rw z at (whole h rest (at + width_of 47 + width_of 42) (n + 1 + 1)))
whole (passes {d} {xs} c m h) rest at n = pass d c rest at n xs (some h) m (whole h rest (at + width_of c) (n + 1))

-- ---- THE THEOREMS. The characters cs follow the opening mark, and stand at the place at; the mark stands at o.
module _ (o : ℕ) (cs : List ℕ) (at : ℕ) where
  -- what the reader passes is a comment
  pub comment_spans : (p k : ℕ) → block_comment o cs at ≡ Ok (p, k) → Comment 1 (take k cs)
  comment_spans p k e = go (comment_end cs at) refl
    where
      go : (f : Found) → comment_end cs at ≡ f → Comment 1 (take k cs)
      go (Ok (q, m)) g =
          let u : ◌≡◌ {A = Skip} (Ok (q + 1, m + 1)) (Ok (p, k)) = rw g at e in
          let y : m + 1 ≡ k = (same_ok _ _ _ _ u).1 in
          let z : k ≡ suc m = omega arith in
          rw z (comment_blank cs at q m g)
      go (Err (q, m)) g = let u = rw g at e in let w : ◌≡◌ {A = ℕ} 0 1 = cc in absurd (omega arith)

  -- and where a comment stands, it is passed to its last character and no further
  pub comment_passed : (xs rest : List ℕ) → cs ≡ xs ++ rest → Comment 1 xs → block_comment o cs at ≡ Ok (after (length xs) cs at, length xs)
  comment_passed xs rest e c =
      let h : EndsWith (Open 1) xs rest at 0 = whole c rest at 0 in
      let y = h.counted in
      let f : comment_end cs at ≡ Ok (h.place, h.count) = rw e h.found in
      let b : block_comment o cs at ≡ Ok (h.place + 1, h.count + 1) = rw f in
      let s : Far cs at (h.count + 1) (h.place + 1) = (rw b at (block_sound o cs at)).is in
      let n : h.count + 1 ≡ length xs = omega arith in
      b ∙ ap (λ (p : ℕ). Ok (p, h.count + 1)) s.there ∙ ap (λ (k : ℕ). Ok (after k cs at, k)) n

  -- 10 at the opening mark exactly if no comment stands there
  abbrev pub NoComment : Type 0
  NoComment = (xs rest : List ℕ) → cs ≡ xs ++ rest → Comment 1 xs → ⊥

  pub comment_refused : NoComment → (p : ℕ) × (k : ℕ) × (block_comment o cs at ≡ Err (refusal UnterminatedBlockComment o, p, k))
  comment_refused h = go (comment_end cs at) refl
    where
      go : (f : Found) → comment_end cs at ≡ f → (p : ℕ) × (k : ℕ) × (block_comment o cs at ≡ Err (refusal UnterminatedBlockComment o, p, k))
      go (Ok (q, m)) g = absurd (h (take (suc m) cs) (drop (suc m) cs) (sym (take-append-drop (suc m) cs)) (comment_blank cs at q m g))
      go (Err (q, m)) g = (q, m, rw g)

  pub comment_refused_only : (r : Refusal) (p k : ℕ) → block_comment o cs at ≡ Err (r, p, k) → NoComment
  comment_refused_only r p k e xs rest q c =
      let u : ◌≡◌ {A = Skip} (Err (r, p, k)) (Ok (after (length xs) cs at, length xs)) = sym e ∙ comment_passed xs rest q c in
      let w : ◌≡◌ {A = ℕ} 0 1 = cc in
      omega arith
