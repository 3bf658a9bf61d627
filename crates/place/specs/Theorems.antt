-- THE THEOREMS about the reporter and the way back, for every text.
use Rattle.std.specs.Prelude.{ℕ, ◌+◌, ◌-◌, ◌≤◌, ◌<◌, Bool, cond, ◌&&◌, List, [], ◌∷◌, ◌++◌, ltb, drop, Some, Result, Ok, Err}
use Rattle.std.proofs.Math.Path.{◌≡◌, refl, sym, ap}
use Rattle.std.proofs.Common.{◌∙◌, arith}
use Rattle.std.proofs.Math.Bool.{true, false}
use borrow.Author.Tests.{eqb-true, le-ltb}
use Rattle.std.proofs.Math.Dec.{eqb}
use Rattle.std.proofs.Math.ListN.{length, get_or}
use Rattle.utf8.specs.Chars.{'carriage_return, 'newline}
use Rattle.utf8.proofs.Laws.{bounded, seen}
use Rattle.utf8.specs.Laws.{Seen, valid_whole}
use Rattle.utf8.specs.Picks.{tests}
use Rattle.utf8.specs.Utf8.{boundary, chars, reach, sight_at, verdict}
use Rattle.record.specs.Allowed.{allowed}
use Rattle.record.specs.Checks.{check_utf8, checks, shift_limit, text_limit}
use Rattle.record.specs.Records.{refusal}
use Rattle.record.specs.declared.Code.TheVariants.{NotUtf8, ShiftTooLarge, TooLong}
use Rattle.record.specs.declared.Refusal.{Refusal}
use Rattle.place.specs.declared.Place.{Place}
use Rattle.place.specs.Back.{Lands, Unsplit, back, back_grows, before_past, before-whole, ends_return, lands, no-units, size}
use Rattle.place.specs.First.{starts-told}
use Rattle.place.specs.Order.{before_all, before_grows, before_in, lines_grow, units_grow}
use Rattle.place.specs.Place.{answered, before, line_column, lines_ended, located, place_at, reported, starts_newline, units_since}
use Rattle.place.specs.Split.{Split, Stands, split, stands}

-- "lines, then columns, in order": one place is not after another
pub record NotAfter (q r : Place) : Type 0 where
  pub lines : q.line ≤ r.line
  pub columns : q.line ≡ r.line → q.column ≤ r.column

-- "between CR and LF"
unfoldable pub between : List ℕ → ℕ → Bool
between s p = eqb (get_or s (p - 1) 0) 'carriage_return && eqb (get_or s p 0) 'newline

-- "every boundary except between CR and LF"
pub record Proper (s : List ℕ) (p : ℕ) : Type 0 where
  pub on : boundary s p ≡ true
  pub apart : between s p ≡ false

-- ---- what an answer is
-- an answer that is no refusal's: the checks passed, and it is the one asked for
passed : {A : Type 0} (s : List ℕ) (x y : A) (refused : Refusal → A) → ((r : Refusal) → refused r ≡ y → ⊥) → answered (checks s 0) x refused ≡ y
    → (checks s 0 ≡ Ok tt) × (x ≡ y)
unfolding answered
passed s x y refused none e = go (checks s 0) refl
  where
    go : (c : Result Unit Refusal) → checks s 0 ≡ c → (checks s 0 ≡ Ok tt) × (x ≡ y)
    go (Ok tt) d = (d, rw d at e)
    go (Err r) d = absurd (none r (rw d at e))

module _ (s : List ℕ) where
  pub told : (p : ℕ) (q : Place) → reported s p ≡ Ok q → (checks s 0 ≡ Ok tt) × (line_column s p ≡ q)
  unfolding reported
  told p q e =
      let h = passed s (Ok (line_column s p)) (Ok q) Err (λ r z. let w : ◌≡◌ {A = ℕ} 0 1 = cc in absurd (omega arith)) e in
      (h.0, cc h.1)

  back-told : (line column p : ℕ) → located s line column ≡ Ok p → (checks s 0 ≡ Ok tt) × (place_at s line column ≡ p)
  unfolding located
  back-told line column p e =
      let h = passed s (Ok (place_at s line column)) (Ok p) Err (λ r z. let w : ◌≡◌ {A = ℕ} 0 1 = cc in absurd (omega arith)) e in
      (h.0, cc h.1)

  -- where line and column are the same, so is the answer
  alike : (p q : ℕ) → (verdict s ≡ Ok tt → line_column s p ≡ line_column s q) → reported s p ≡ reported s q
  unfolding answered reported
  alike p q f = go (checks s 0) refl
    where
      go : (c : Result Unit Refusal) → checks s 0 ≡ c → answered c (Ok (line_column s p)) Err ≡ answered c (Ok (line_column s q)) Err
      go (Ok tt) d = ap Ok (f (allowed s 0 d).valid)
      go (Err r) d = refl

-- ---- 1. "Refusals: 12, then 11 (shift 0)", for both ways: 12 at 0, 11 at the first byte of the first ill-formed sequence, and no other
abbrev pub well_formed : Result Unit ℕ → Result Unit Refusal
well_formed (Ok tt) = Ok tt
well_formed (Err p) = Err (refusal NotUtf8 p)

pub refusals : (s : List ℕ) → checks s 0 ≡ cond (ltb text_limit (length s)) (Err (refusal TooLong 0)) (well_formed (verdict s))
unfolding checks
refusals s = go (ltb text_limit (length s)) refl
  where
    text : (v : Result Unit ℕ) → check_utf8 0 v ≡ well_formed v
    text (Ok tt) = refl
    text (Err p) = ap (λ (k : ℕ). Err (refusal NotUtf8 k)) (omega arith)

    go : (t : Bool) → ltb text_limit (length s) ≡ t
        → cond t (Err (refusal TooLong 0)) (cond (ltb shift_limit (0 + length s)) (Err (refusal ShiftTooLarge 0)) (check_utf8 0 (verdict s)))
        ≡ cond t (Err (refusal TooLong 0)) (well_formed (verdict s))
    go true e = refl
    go false e = rw (le-ltb shift_limit (0 + length s) (omega tests)) (text (verdict s))

-- ---- 2. "The reporter never falls as the place grows (lines, then columns, in order)."
grows : (s : List ℕ) (p q : ℕ) → p ≤ q → NotAfter (line_column s p) (line_column s q)
unfolding line_column
grows s p q h =
    let b : before p (chars s) ≤ before q (chars s) = before_grows p q (chars s) h in
    record { lines = lines_grow _ _ (chars s) b; columns = λ e. units_grow 0 _ _ (chars s) b e }

pub never_falls : (s : List ℕ) (p q : ℕ) (a b : Place) → reported s p ≡ Ok a → reported s q ≡ Ok b → p ≤ q → NotAfter a b
never_falls s p q a b d e h = rw ((told s p a d).1, (told s q b e).1) at (grows s p q h)

-- ---- 3. "A place inside a character answers as its first byte", and one beyond the text as its end.
inside-alike : (s : List ℕ) (p q k w : ℕ) → verdict s ≡ Ok tt → boundary s p ≡ true → sight_at s p ≡ Some (k, w) → p ≤ q → q < p + w
    → before q (chars s) ≡ before p (chars s)
inside-alike s p q k w v b e h g =
    let o : Split s 0 p = split s p v b in
    let n : Seen s p k w = seen s p k w e in
    let c : chars s ≡ o.front ++ (k ∷ chars (drop (p + w) s)) = o.joined ∙ ap (λ (l : List ℕ). o.front ++ l) n.next in
    let r : List ℕ = k ∷ chars (drop (p + w) s) in
    let m : q ≡ size o.front + (q - p) = omega (arith, o.bytes) in
    let z : size o.front ≡ p = omega (arith, o.bytes) in
    let i : before (q - p) r ≡ 0 = before_in (q - p) k (chars (drop (p + w) s)) (omega (arith, n.width)) in
    let x : before q (chars s) ≡ length o.front + before (q - p) r = cc (c, m, before_past o.front r (q - p)) in
    let y : before p (chars s) ≡ length o.front = cc (c, z, before-whole o.front r) in
    omega arith

pub inside : (s : List ℕ) (p q k w : ℕ) → boundary s p ≡ true → sight_at s p ≡ Some (k, w) → p ≤ q → q < p + w → reported s q ≡ reported s p
unfolding line_column
inside s p q k w b e h g = alike s q p (λ v. rw (inside-alike s p q k w v b e h g))

pub beyond : (s : List ℕ) (p : ℕ) → length s ≤ p → reported s p ≡ reported s (length s)
unfolding line_column
beyond s p h =
    alike s p (length s)
    (λ v.
    let o : reach (chars s) 0 ≡ length s = valid_whole s v in
    rw (before_all p (chars s) 0 (omega arith), before_all (length s) (chars s) 0 (omega arith)))

-- ---- 4. "For every boundary except between CR and LF, there and back gives the place."
not_split : (s : List ℕ) (p : ℕ) (o : Split s 0 p) → between s p ≡ false → Unsplit o.front (chars (drop p s))
unfolding between
not_split s p o a r n =
    let z : true ≡ false = rw (o.last r, sym (starts-told s p) ∙ n) at a in
    let w : ◌≡◌ {A = ℕ} 0 1 = cc in
    absurd (omega arith)

again : (s : List ℕ) (p : ℕ) → verdict s ≡ Ok tt → Proper s p → place_at s (line_column s p).line (line_column s p).column ≡ p
unfolding line_column place_at
again s p v h =
    let o : Split s 0 p = split s p v h.on in
    let ys : List ℕ = chars (drop p s) in
    let c : chars s ≡ o.front ++ ys = o.joined in
    let e : size o.front ≡ p = omega (arith, o.bytes) in
    let n : before p (chars s) ≡ length o.front = cc (c, e, before-whole o.front ys) in
    cc (c, n, back o.front ys (not_split s p o h.apart), e)

pub there_and_back : (s : List ℕ) (p : ℕ) (q : Place) → reported s p ≡ Ok q → Proper s p → located s q.line q.column ≡ Ok p
unfolding answered located
there_and_back s p q e h =
    let t = told s p q e in
    rw t.0 (ap Ok (rw t.1 at (again s p (allowed s 0 t.0).valid h)))

-- so two such places with the same answer are equal
pub same_place : (s : List ℕ) (p r : ℕ) (q : Place) → reported s p ≡ Ok q → reported s r ≡ Ok q → Proper s p → Proper s r → p ≡ r
same_place s p r q d e g h =
    let z : Ok p ≡ Ok r = sym (there_and_back s p q d g) ∙ there_and_back s r q e h in
    cc

-- something stands before a place between CR and LF
some : (s : List ℕ) (p : ℕ) (xs : List ℕ) → size xs ≡ p → get_or s (p - 1) 0 ≡ 'carriage_return → get_or s p 0 ≡ 'newline → 0 < length xs
unfolding size
some s p [] e c d = let z : ◌≡◌ {A = ℕ} 13 10 = cc (c, d, e) in absurd (omega arith)
some s p (x ∷ xs) e c d = omega arith

-- ---- 5. The way back answers the last such place that is not after the line and the column asked for.
module _ (s : List ℕ) (line column p : ℕ) (e : located s line column ≡ Ok p) where
  valid : verdict s ≡ Ok tt
  valid = (allowed s 0 (back-told s line column p e).0).valid

  here : Lands line column 0 (chars s)
  here = lands line column 0 (chars s)

  there : size here.front ≡ p
  unfolding place_at
  there = sym here.bytes ∙ (back-told s line column p e).1

  at_it : Stands s p here.front here.rest
  at_it = rw there at (stands s here.front here.rest valid here.joined)

  pub back_proper : Proper s p
  unfolding between
  back_proper =
      record { on = bounded s p at_it.within_it at_it.whole; apart = go (eqb (get_or s (p - 1) 0) 'carriage_return) (eqb (get_or s p 0) 'newline) refl refl }
    where
      go : (x y : Bool) → eqb (get_or s (p - 1) 0) 'carriage_return ≡ x → eqb (get_or s p 0) 'newline ≡ y → (x && y) ≡ false
      go false y a b = refl
      go true false a b = refl
      go true true a b =
          let c : get_or s (p - 1) 0 ≡ 'carriage_return = eqb-true _ _ a in
          let d : get_or s p 0 ≡ 'newline = eqb-true _ _ b in
          let m : ends_return here.front ≡ true = at_it.last c (some s p here.front there c d) in
          let n : starts_newline here.rest ≡ true = ap starts_newline (sym at_it.rest) ∙ starts-told s p ∙ b in
          absurd (here.not_split m n)

  -- it is not after what was asked for,
  pub back-not-after : (q : Place) → reported s p ≡ Ok q → NotAfter q (record { line = line; column = column })
  unfolding line_column
  back-not-after q d =
      let n : before p (chars s) ≡ length here.front = cc (here.joined, there, before-whole here.front here.rest) in
      let f = (told s p q d).1 in
      let l : q.line ≡ lines_ended (length here.front) (chars s) = cc (n, f) in
      let c : q.column ≡ units_since 0 (length here.front) (chars s) = cc (n, f) in
      record {
        lines = omega (arith, l, here.lines);
        columns = λ o. omega (arith, c, here.columns (sym l ∙ o), no-units (eqb line 0));
      }

  -- and no later such place is not after it
  pub back_last : (r : ℕ) (q : Place) → reported s r ≡ Ok q → Proper s r → NotAfter q (record { line = line; column = column }) → r ≤ p
  unfolding place_at
  back_last r q d h n =
      let a : place_at s q.line q.column ≡ r = (back-told s q.line q.column r (there_and_back s r q d h)).1 in
      omega (arith, a, (back-told s line column p e).1, back_grows q.line q.column line column (chars s) n.lines n.columns)
