-- Why the bytes of an expansion are the characters that the Rust pushes: both readings go on from the same boundaries.
use Rattle.std.specs.Prelude.{Ok, Err, ◌≡◌, refl, Bool, true, false, cond, List, [], ◌∷◌, ◌++◌, ℕ, zero, suc, ◌+◌, ◌-◌, ◌≤◌, ◌<◌, ltb, eqb, length, get_or, take, drop, Option, Some, None}
use Rattle.std.proofs.Common.{sym, ap, ◌∙◌, add-zero, arith, drop_of_length-le, length-take-le, drop_at, eqb-true, ne_eqb, ltb-true}
use Rattle.std.proofs.lemmas.Bool.{eqb-false}
use Rattle.utf8.specs.Utf8.{lead, sight, sight_at, chars, chars_from, width_of}
use Rattle.utf8.specs.Picks.{by_test}
use Rattle.utf8.specs.Chars.{'backslash}
use Rattle.utf8.proofs.Laws.{seen}
use Rattle.utf8.specs.Laws.{Seen, ended, sight_in, sight_past, sight_ascii, Whole, whole-step}
use Rattle.record.specs.declared.Refusal.{Refusal}
use Rattle.escapes.specs.Escapes.{Read, escape, stands, Outcome, gives, refused, prepend, has_byte}
use Rattle.escapes.specs.Characters.{means, spell_from, in_characters}
use Rattle.escapes.specs.Laws.{same_some, Turn, turn, rest, rest_byte, rest-bad, rest_end, cons-at}
use Rattle.escapes.specs.Formed.{front, Plain, plain-next, plain_char, copied, LandsIn, lands, Later, by_boundary}

-- the first character of a list is read
first_char : (c : ℕ) (cs : List ℕ) (at v w : ℕ) → means c cs at ≡ Ok (v, w)
    → spell_from 0 (c ∷ cs) at ≡ prepend (v ∷ []) (spell_from (w - 1) cs (at + width_of c))
unfolding spell_from
first_char c cs at v w e = rw (e, spell_from)

first-none : (c : ℕ) (cs : List ℕ) (at : ℕ) (r : Refusal) → means c cs at ≡ Err r → spell_from 0 (c ∷ cs) at ≡ refused r
unfolding spell_from
first-none c cs at r e = rw (e, spell_from)

-- the characters of a list that starts with one
chars_char : (x l : List ℕ) (k w : ℕ) → sight x ≡ Some (k, w) → chars (take w x ++ l) ≡ k ∷ chars l
unfolding sight_at
chars_char x l k w e =
    let h : Seen x 0 k w = seen x 0 k w e in
    let n : length (take w x) ≡ w = length-take-le w x (omega (arith, h.room)) in
    let g : Seen (take w x ++ l) 0 k w = seen (take w x ++ l) 0 k w (front x l k w e) in
    let z : 0 + w ≡ w = omega arith in
    g.next
    ∙ ap (λ (i : ℕ). k ∷ chars (drop i (take w x ++ l))) z
    ∙ ap (λ (y : List ℕ). k ∷ chars y) (drop_at (take w x) l w n)

in_front : (x : List ℕ) (k w : ℕ) → sight x ≡ Some (k, w) → (o : Outcome) → in_characters (prepend (take w x) o) ≡ prepend (k ∷ []) (in_characters o)
in_front x k w e (gives l) = ap gives (chars_char x l k w e)
in_front x k w e (refused r) = refl

in_ascii : (v : ℕ) → v < 128 → (o : Outcome) → in_characters (prepend (v ∷ []) o) ≡ prepend (v ∷ []) (in_characters o)
unfolding sight_at
in_ascii v h o = in_front (v ∷ []) v 1 (sym (sight_ascii (v ∷ []) 0 (omega arith) h)) o

-- a character of one byte is that byte
record Thin (a : ℕ) (x : Option (ℕ × ℕ)) : Type 0 where
  is : (k w : ℕ) → x ≡ Some (k, w) → w ≡ 1 → k ≡ a

thin_test : (a : ℕ) (t : Bool) (x y : Option (ℕ × ℕ)) → Thin a x → Thin a y → Thin a (cond t x y)
thin_test a t x y f g = by_test (Thin a) t x y (λ h. f) (λ h. g)

thin_end : (a : ℕ) → Thin a None
thin_end a = record { is = λ k w e m. cc }

thin_one : (a : ℕ) → Thin a (Some (a, 1))
thin_one a = record { is = λ k w e m. sym (same_some _ _ _ _ e).0 }

thin_more : (a m n : ℕ) → ltb 1 n ≡ true → Thin a (Some (m, n))
thin_more a m n t =
    record {
      is = λ k w e g.
          let i : n ≡ w = (same_some _ _ _ _ e).1 in
          let j : 1 < n = ltb-true 1 n t in
          absurd (omega arith);
    }

thin : (l h a b c d : ℕ) → Thin a (lead l h a b c d)
unfolding lead
thin l h a b c d = search (thin_test, thin_end, thin_one, thin_more) depth 26

-- so a character whose first byte is no backslash is none
other : (s : List ℕ) (i k w : ℕ) → i < length s → sight_at s i ≡ Some (k, w) → eqb (get_or s i 0) 'backslash ≡ false → eqb k 'backslash ≡ false
unfolding width_of
other s i k w l e t =
    ne_eqb k 'backslash
    (λ (q : k ≡ 'backslash).
    let h : Seen s i k w = seen s i k w e in
    let n : w ≡ 1 = h.width ∙ ap width_of q in
    let m : k ≡ get_or s i 0 = (thin _ _ _ _ _ _).is k w (sym (sight_in s i l) ∙ e) n in
    eqb-false _ _ t (sym m ∙ q))

-- the two readings agree from i on
abbrev pub Agree : List ℕ → ℕ → ℕ → Type 0
Agree s idx0 i = in_characters (rest s idx0 i) ≡ spell_from 0 (chars (drop i s)) (idx0 + i)

agree-end : (s : List ℕ) (idx0 i : ℕ) → length s ≤ i → Agree s idx0 i
unfolding chars chars_from spell_from
agree-end s idx0 i l = rw (rest_end s idx0 i l, (ended s i (sight_past s i l)).none)

agree_char : (s : List ℕ) (idx0 i k w : ℕ) → Later s (Agree s idx0) i → i < length s → Whole s i → sight_at s i ≡ Some (k, w)
    → eqb (get_or s i 0) 'backslash ≡ false → Agree s idx0 i
unfolding sight_at means
agree_char s idx0 i k w f r o e t =
    let h : Seen s i k w = seen s i k w e in
    let m = h.moves in
    let p : idx0 + (i + w) ≡ idx0 + i + width_of k = omega (arith, h.width) in
    rw (copied w s idx0 i h.room (plain_char s i k w r e t))
    (in_front (drop i s) k w e (rest s idx0 (i + w))
    ∙ ap (prepend (k ∷ [])) (f (i + w) (omega arith) h.room (whole-step s i k w h o))
    ∙ ap (λ (q : ℕ). prepend (k ∷ []) (spell_from 0 (chars (drop (i + w) s)) q)) p
    ∙ sym (rw h.next (first_char k (chars (drop (i + w) s)) (idx0 + i) k 1 (rw (other s i k w r e t)))))

agree-escape : (s : List ℕ) (idx0 i : ℕ) → Later s (Agree s idx0) i → i < length s → Whole s i → eqb (get_or s i 0) 'backslash ≡ true → Agree s idx0 i
unfolding stands means width_of
agree-escape s idx0 i f r o t = go (escape (chars (drop (i + 1) s)) (idx0 + i)) refl
  where
    b : get_or s i 0 ≡ 'backslash
    b = eqb-true _ _ t

    here : Seen s i 'backslash 1
    here = rw b at (seen s i (get_or s i 0) 1 (sym (sight_ascii s i r (omega (arith, b)))))

    go : (x : Read) → escape (chars (drop (i + 1) s)) (idx0 + i) ≡ x → Agree s idx0 i
    go (Err y) e = rw (rest-bad s idx0 i y r (rw t e), here.next) (sym (first-none 'backslash (chars (drop (i + 1) s)) (idx0 + i) y e))
    go (Ok (v, w)) e =
        let u : Turn s idx0 i v w = turn s idx0 i v w r (rw t e) in
        let g : LandsIn s (i + 1) (Ok (v, w)) = rw e at (lands s (i + 1) (idx0 + i) (whole-step s i 'backslash 1 here o)).is in
        let m = u.moves in
        let n : i + 1 + w - 1 ≡ i + w = omega arith in
        let q : idx0 + (i + w) ≡ idx0 + i + 1 + (w - 1) = omega arith in
        let z : i + w ≡ i + 1 + (w - 1) = omega arith in
        let y : spell_from 0 (chars (drop (i + w) s)) (idx0 + (i + w)) ≡ spell_from (w - 1) (chars (drop (i + 1) s)) (idx0 + i + 1) =
        rw (q, z) (sym (g.3 (idx0 + i + 1))) in
        rw (rest_byte u, here.next)
        (in_ascii v g.0 (rest s idx0 (i + w))
        ∙ ap (prepend (v ∷ [])) (f (i + w) (omega arith) (omega (arith, g.1)) (rw n at g.2))
        ∙ ap (prepend (v ∷ [])) y
        ∙ sym (first_char 'backslash (chars (drop (i + 1) s)) (idx0 + i) v w e))

pub agree : (s : List ℕ) (idx0 n i : ℕ) → length s ≤ i + n → i ≤ length s → Whole s i → Agree s idx0 i
agree s idx0 = by_boundary s (Agree s idx0) (agree-end s idx0) (agree-escape s idx0) (agree_char s idx0)

-- a text has a backslash among its bytes where it has one among its characters
plain-skip : (m : ℕ) (s : List ℕ) (i : ℕ) → i + m ≤ length s → Plain s i m → has_byte 'backslash (drop i s) ≡ has_byte 'backslash (drop (i + m) s)
unfolding has_byte
plain-skip zero s i l p = rw (add-zero i)
plain-skip (suc m) s i l p =
    let e : i + 1 + m ≡ i + suc m = omega arith in
    let f : eqb (get_or s i 0) 'backslash ≡ false = rw (add-zero i) at (p 0 (omega arith)) in
    rw (cons-at s i (omega arith), f)
    (plain-skip m s (i + 1) (omega arith) (plain-next s i m p) ∙ ap (λ (k : ℕ). has_byte 'backslash (drop k s)) e)

abbrev pub Found : List ℕ → ℕ → Type 0
Found s i = has_byte 'backslash (chars (drop i s)) ≡ has_byte 'backslash (drop i s)

found-end : (s : List ℕ) (i : ℕ) → length s ≤ i → Found s i
found-end s i l = rw ((ended s i (sight_past s i l)).none, drop_of_length-le s l)

found_sign : (s : List ℕ) (i : ℕ) → Later s (Found s) i → i < length s → Whole s i → eqb (get_or s i 0) 'backslash ≡ true → Found s i
unfolding has_byte
found_sign s i f l o q =
    let e : get_or s i 0 ≡ 'backslash = eqb-true _ _ q in
    let b : Seen s i (get_or s i 0) 1 = seen s i (get_or s i 0) 1 (sym (sight_ascii s i l (omega arith))) in
    rw (b.next, cons-at s i l, q)

found_char : (s : List ℕ) (i k w : ℕ) → Later s (Found s) i → i < length s → Whole s i → sight_at s i ≡ Some (k, w)
    → eqb (get_or s i 0) 'backslash ≡ false → Found s i
unfolding has_byte
found_char s i k w f l o p q =
    let h : Seen s i k w = seen s i k w p in
    rw (h.next, other s i k w l p q)
    (f (i + w) (omega (arith, h.moves)) h.room (whole-step s i k w h o) ∙ sym (plain-skip w s i h.room (plain_char s i k w l p q)))

pub found : (s : List ℕ) (n i : ℕ) → length s ≤ i + n → i ≤ length s → Whole s i → Found s i
found s = by_boundary s (Found s) (found-end s) (found_sign s) (found_char s)
