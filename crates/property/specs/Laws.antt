-- What a turn of each loop keeps, and how far each reading goes.
use Rattle.std.specs.Prelude.{ℕ, suc, ◌+◌, ◌-◌, ◌*◌, ◌≤◌, ◌<◌, ◌≡◌, refl, Bool, false, ◌&&◌, List, [], ◌∷◌, eqb, ltb, leb, length, get_or, drop}
use Rattle.std.proofs.Common.{sym, ap, ◌∙◌, add-one, arith, length-drop, drop-cons}
use Rattle.std.proofs.Math.Bool.{true}
use Rattle.std.proofs.Math.ListN.{drop_of_length-le}
use Rattle.std.proofs.Math.Seq.{drop-drop}
use borrow.Author.Tests.{lt-ltb, le-ltb, le-leb, lt-leb, eq-eqb, ne_eqb}
use Rattle.utf8.specs.Chars.{'#, 'semi}
use Rattle.property.specs.declared.line.Hex.{Hex}
use Rattle.property.specs.declared.line.Line.TheVariants.{Nothing, Damaged}
use Rattle.property.specs.Hex.{digit_of, hex_from, hex_of}
use Rattle.property.specs.Lines.{'space, passes, front, past_spaces, starts_with, known_of, semi_of, named_of, first_of, line_of, read_of, line_at}

-- the text from a place on is its byte there, and the text from the next on
at_place : (s : List ℕ) (at : ℕ) → at < length s → drop at s ≡ get_or s at 0 ∷ drop (at + 1) s
at_place s at h = rw add-one (drop-cons s at 0 h)

-- THE BYTES AT THE FRONT
module _ (b : ℕ) (same : Bool) (s : List ℕ) (at : ℕ) where
  pub front-on : at < length s → passes (get_or s at 0) b same ≡ true → at + 1 + front b same (drop (at + 1) s) ≡ at + front b same (drop at s)
  unfolding front
  front-on h e = rw (at_place s at h, front, e) (omega arith)

  pub front_at : at < length s → passes (get_or s at 0) b same ≡ false → at ≡ at + front b same (drop at s)
  unfolding front
  front_at h e = rw (at_place s at h, front, e) (omega arith)

  pub front-end : length s ≤ at → at ≡ at + front b same (drop at s)
  unfolding front
  front-end h = rw (drop_of_length-le s h) (omega arith)

pub front_few : (b : ℕ) (same : Bool) (s : List ℕ) → front b same s ≤ length s
unfolding front
front_few b same [] = omega arith
front_few b same (a ∷ s) = go (passes a b same) (front_few b same s)
  where
    go : (t : Bool) → front b same s ≤ length s → elim t as (λ _. ℕ) [ true ↦ suc (front b same s) | false ↦ 0 ] ≤ suc (length s)
    go true h = omega arith
    go false h = omega arith

-- no further than the end
pub front-within : (b : ℕ) (same : Bool) (s : List ℕ) (at : ℕ) → at ≤ length s → at + front b same (drop at s) ≤ length s
front-within b same s at h = omega (arith, front_few b same (drop at s), length-drop at s)

-- THE DIGITS
module _ (v n : ℕ) (s : List ℕ) (at d : ℕ) where
  pub hex_on : at < length s → d ≡ digit_of (get_or s at 0) → d < 16 → v ≤ 0x10FFFF → hex_from (v * 16 + d) (n + 1) (drop (at + 1) s) ≡ hex_from v n (drop at s)
  unfolding hex_from
  hex_on h e l m = rw (at_place s at h, hex_from, ← e, lt-ltb d 16 l, le-leb v 0x10FFFF m, e)

  pub hex_other : at < length s → d ≡ digit_of (get_or s at 0) → 16 ≤ d → record { value = v; digits = n } ≡ hex_from v n (drop at s)
  unfolding hex_from
  hex_other h e l = rw (at_place s at h, hex_from, ← e, le-ltb d 16 l)

  pub hex_full : at < length s → d ≡ digit_of (get_or s at 0) → d < 16 → 0x10FFFF < v → record { value = v; digits = n } ≡ hex_from v n (drop at s)
  unfolding hex_from
  hex_full h e l m = rw (at_place s at h, hex_from, ← e, lt-ltb d 16 l, lt-leb v 0x10FFFF m)

pub hex_end : (v n : ℕ) (s : List ℕ) (at : ℕ) → length s ≤ at → record { value = v; digits = n } ≡ hex_from v n (drop at s)
unfolding hex_from
hex_end v n s at h = rw (drop_of_length-le s h)

hex_more : (v n : ℕ) (s : List ℕ) → (hex_from v n s).digits ≤ n + length s
unfolding hex_from
hex_more v n [] = omega arith
hex_more v n (b ∷ s) = go (ltb (digit_of b) 16 && leb v 0x10FFFF) (hex_more (v * 16 + digit_of b) (n + 1) s)
  where
    go : (t : Bool) → (hex_from (v * 16 + digit_of b) (n + 1) s).digits ≤ n + 1 + length s
        → (elim t as (λ _. Hex) [ true ↦ hex_from (v * 16 + digit_of b) (n + 1) s | false ↦ record { value = v; digits = n } ]).digits ≤ n + suc (length s)
    go true h = omega arith
    go false h = omega arith

-- no more digits than bytes
pub hex_few : (s : List ℕ) (at : ℕ) → (hex_of (drop at s)).digits ≤ length s - at
unfolding hex_of
hex_few s at = omega (arith, hex_more 0 0 (drop at s), length-drop at s)

-- A WORD
module _ (word : List ℕ) (i : ℕ) (s : List ℕ) (at : ℕ) where
  pub starts-on : i < length word → at < length s → get_or s at 0 ≡ get_or word i 0 → starts_with (drop (i + 1) word) (drop (at + 1) s) ≡ starts_with (drop i word) (drop at s)
  unfolding starts_with
  starts-on h k e = rw (at_place s at k, at_place word i h, starts_with, eq-eqb (get_or s at 0) (get_or word i 0) e)

  pub starts_other : i < length word → at < length s → (get_or s at 0 ≡ get_or word i 0 → ⊥) → false ≡ starts_with (drop i word) (drop at s)
  unfolding starts_with
  starts_other h k e = rw (at_place s at k, at_place word i h, starts_with, ne_eqb (get_or s at 0) (get_or word i 0) e)

  pub starts-short : i < length word → length s ≤ at → false ≡ starts_with (drop i word) (drop at s)
  unfolding starts_with
  starts-short h k = rw (drop_of_length-le s k, at_place word i h)

  pub starts-end : length word ≤ i → true ≡ starts_with (drop i word) (drop at s)
  unfolding starts_with
  starts-end h = rw (drop_of_length-le word h)

starts_long : (word s : List ℕ) → starts_with word s ≡ true → length word ≤ length s
unfolding starts_with
starts_long [] s e = omega arith
starts_long (a ∷ word) [] e = let z : ◌≡◌ {A = ℕ} 0 1 = cc in absurd (omega arith)
starts_long (a ∷ word) (b ∷ s) e = go (eqb b a) e (starts_long word s)
  where
    go : (t : Bool) → elim t as (λ _. Bool) [ true ↦ starts_with word s | false ↦ false ] ≡ true → (starts_with word s ≡ true → length word ≤ length s) → suc (length word) ≤ suc (length s)
    go true f h = let l = h f in omega arith
    go false f h = let z : ◌≡◌ {A = ℕ} 0 1 = cc in absurd (omega arith)

-- a word that stands at a place has room there
pub starts-room : (word s : List ℕ) (at : ℕ) → starts_with word (drop at s) ≡ true → length word ≤ length s - at
starts-room word s at e = omega (arith, starts_long word (drop at s) e, length-drop at s)

-- WHAT STANDS AFTER THE CODE POINTS, where `semi` is the place after the spaces
module _ (s : List ℕ) (at semi first last : ℕ) (e : semi ≡ at + front 'space true (drop at s)) where
  past : past_spaces (drop at s) ≡ drop semi s
  past = drop-drop (front 'space true (drop at s)) at s ∙ ap (λ (k : ℕ). drop k s) (sym e)

  pub named_end : length s ≤ semi → Damaged ≡ named_of (drop at s) first last
  unfolding semi_of
  named_end h = rw (past, drop_of_length-le s h)

  pub named_other : semi < length s → (get_or s semi 0 ≡ 'semi → ⊥) → Damaged ≡ named_of (drop at s) first last
  unfolding semi_of
  named_other h n = rw (past, at_place s semi h, ne_eqb (get_or s semi 0) 'semi n)

  pub named_semi : semi < length s → get_or s semi 0 ≡ 'semi → (name : ℕ) → name ≡ semi + 1 + front 'space true (drop (semi + 1) s)
      → known_of (drop name s) first last ≡ named_of (drop at s) first last
  unfolding semi_of
  named_semi h m name f =
      rw (past, at_place s semi h, eq-eqb (get_or s semi 0) 'semi m, drop-drop (front 'space true (drop (semi + 1) s)) (semi + 1) s, ← f)

-- A LINE
pub line-none : (s : List ℕ) → length s ≡ 0 → Nothing ≡ line_of s
unfolding line_of
line-none [] e = refl
line-none (b ∷ s) e = absurd (omega arith)

pub line_remark : (s : List ℕ) → 0 < length s → get_or s 0 0 ≡ '# → Nothing ≡ line_of s
unfolding line_of
line_remark [] h e = refl
line_remark (b ∷ s) h e = rw (eq-eqb b '# e)

pub line_points : (s : List ℕ) → 0 < length s → (get_or s 0 0 ≡ '# → ⊥) → first_of (hex_of s) s ≡ line_of s
unfolding line_of
line_points [] h e = absurd (omega arith)
line_points (b ∷ s) h e = rw (ne_eqb b '# e)

-- reading a line moves on
pub line_on : (s : List ℕ) (at : ℕ) → at < length s → at < (line_at s at).next
unfolding line_at read_of
line_on s at h = rw (lt-ltb at (length s) h) (omega arith)
