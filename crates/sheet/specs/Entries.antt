-- What the entries of a text come to, number by number.
use Rattle.std.specs.Prelude.{◌+◌, ◌<◌, ◌≤◌, ℕ, Bool, cond, false, true, List, [], ◌∷◌, ◌≡◌, refl, eqb, get_or, length}
use Rattle.std.proofs.Common.{arith, ◌∙◌, ap, eqb-true, ne_eqb}
use Rattle.record.specs.Numbers.{kind_number}
use Rattle.record.specs.declared.Kind.{Kind}
use Rattle.record.specs.declared.Reading.TheVariants.{Old}
use Rattle.record.specs.declared.Token.{Token}
use Rattle.scan.specs.Until.{left}
use Rattle.reading.specs.Next.{next}
use Rattle.ledger.specs.Order.{Called}
use Rattle.ledger.specs.Written.{kind_small}
use Rattle.sheet.specs.Adds.{between, beyond, drops, enter, entered, fails, gap_entered, sheet_size, token_entered}
use Rattle.sheet.specs.Apart.{comments, whites}
use Rattle.sheet.specs.Calls.{beyond-is, shift_token_lem, sizes}
use Rattle.sheet.specs.Laws.{enter-length, enter-other, enter-same, whites-comments}

-- n in the number i, seen from the number j
abbrev pub seen : ℕ → ℕ → ℕ → ℕ
seen i n j = cond (eqb j i) n 0

enter-at : (i n j : ℕ) (l : List ℕ) → i < length l → get_or (enter i n l) j 0 ≡ get_or l j 0 + seen i n j
enter-at i n j l h = go (eqb j i) refl
  where
    go : (b : Bool) → eqb j i ≡ b → get_or (enter i n l) j 0 ≡ get_or l j 0 + cond b n 0
    go true q = rw (eqb-true j i q) (enter-same i n l h)
    go false q = let e = enter-other i j n l q in omega (arith, e)

gap_length : (xs l : List ℕ) → length (gap_entered xs l) ≡ length l
unfolding gap_entered
gap_length xs l = enter-length _ _ _ ∙ enter-length _ _ _

token-length : (s : List ℕ) (t : Token) (l : List ℕ) → length (token_entered s t l) ≡ length l
unfolding token_entered
token-length s t l = enter-length _ _ _ ∙ enter-length _ _ _ ∙ enter-length _ _ _ ∙ enter-length _ _ _

pub entered-length : (s : List ℕ) (ts : List Token) (at : ℕ) (l : List ℕ) → length (entered s at ts l) ≡ length l
unfolding entered
entered-length s [] at l = gap_length (left s at) l
entered-length s (t ∷ ts) at l = entered-length s ts (beyond s t) _ ∙ token-length s t _ ∙ gap_length _ l

gap_at : (xs l : List ℕ) (j : ℕ) → length l ≡ sheet_size → get_or (gap_entered xs l) j 0 ≡ get_or l j 0 + seen 55 (whites xs) j + seen 56 (comments xs) j
unfolding gap_entered
gap_at xs l j h =
    let a = enter-length 55 (whites xs) l in
    enter-at 56 (comments xs) j (enter 55 (whites xs) l) (omega (arith, a, h)) ∙ ap (λ (v : ℕ). v + seen 56 (comments xs) j) (enter-at 55 (whites xs) j l (omega (arith, h)))

token-at : (s : List ℕ) (t : Token) (l : List ℕ) (j : ℕ) → length l ≡ sheet_size
    → get_or (token_entered s t l) j 0
    ≡ get_or l j 0 + seen (kind_number t.kind) 1 j + seen 54 (length (between s t.start t.end)) j + seen 57 (drops s t) j + seen 59 (fails (left s t.start) t.start) j
unfolding token_entered
token-at s t l j h =
    let k = kind_small t.kind in
    let w = length (between s t.start t.end) in
    let a = enter-length (kind_number t.kind) 1 l in
    let b = enter-length 54 w (enter (kind_number t.kind) 1 l) in
    let c = enter-length 57 (drops s t) (enter 54 w (enter (kind_number t.kind) 1 l)) in
    let d = enter-at (kind_number t.kind) 1 j l (omega (arith, h, k)) in
    let e = enter-at 54 w j (enter (kind_number t.kind) 1 l) (omega (arith, a, h)) in
    let f = enter-at 57 (drops s t) j (enter 54 w (enter (kind_number t.kind) 1 l)) (omega (arith, a, b, h)) in
    let g = enter-at 59 (fails (left s t.start) t.start) j (enter 57 (drops s t) (enter 54 w (enter (kind_number t.kind) 1 l))) (omega (arith, a, b, c, h)) in
    omega (arith, d, e, f, g)

no_kind : (j : ℕ) (k : Kind) → 54 ≤ j → eqb j (kind_number k) ≡ false
no_kind j k h = let s = kind_small k in ne_eqb j (kind_number k) (λ e. omega arith)

-- ---- the numbers that no gap and no token enters
pub record Untouched (j : ℕ) : Type 0 where
  pub high : 54 ≤ j
  pub a : eqb j 54 ≡ false
  pub b : eqb j 55 ≡ false
  pub c : eqb j 56 ≡ false
  pub d : eqb j 57 ≡ false
  pub e : eqb j 59 ≡ false

pub entered-other : (s : List ℕ) (j : ℕ) → Untouched j → (ts : List Token) (at : ℕ) (l : List ℕ) → length l ≡ sheet_size → get_or (entered s at ts l) j 0 ≡ get_or l j 0
unfolding entered
entered-other s j u [] at l h = let g = gap_at (left s at) l j h in let z = rw (u.b, u.c) at g in omega (arith, z)
entered-other s j u (t ∷ ts) at l h =
    let xs = between s at t.start in
    let g = rw (u.b, u.c) at (gap_at xs l j h) in
    let k = gap_length xs l ∙ h in
    let f = rw (no_kind j t.kind u.high, u.a, u.d, u.e) at (token-at s t (gap_entered xs l) j k) in
    let i = entered-other s j u ts (beyond s t) (token_entered s t (gap_entered xs l)) (token-length s t (gap_entered xs l) ∙ k) in
    omega (arith, g, f, i)

-- ---- the four totals of characters
abbrev pub four : List ℕ → ℕ
four l = get_or l 54 0 + get_or l 55 0 + get_or l 56 0 + get_or l 57 0

gap-four : (xs l : List ℕ) → length l ≡ sheet_size → four (gap_entered xs l) ≡ four l + length xs
gap-four xs l h =
    let a = gap_at xs l 54 h in
    let b = gap_at xs l 55 h in
    let c = gap_at xs l 56 h in
    let d = gap_at xs l 57 h in
    omega (arith, a, b, c, d, whites-comments xs)

token-four : (s : List ℕ) (t : Token) (l : List ℕ) → length l ≡ sheet_size → four (token_entered s t l) ≡ four l + length (between s t.start t.end) + drops s t
token-four s t l h =
    let a = rw (no_kind 54 t.kind (omega arith)) at (token-at s t l 54 h) in
    let b = rw (no_kind 55 t.kind (omega arith)) at (token-at s t l 55 h) in
    let c = rw (no_kind 56 t.kind (omega arith)) at (token-at s t l 56 h) in
    let d = rw (no_kind 57 t.kind (omega arith)) at (token-at s t l 57 h) in
    omega (arith, a, b, c, d)

-- of the tokens of calls, one after the other: all the characters that are left
pub entered-four : (s : List ℕ) (ts : List Token) (at : ℕ) (l : List ℕ) → length l ≡ sheet_size → Called Old s 0 at ts → four (entered s at ts l) ≡ four l + length (left s at)
unfolding entered
entered-four s [] at l h c = gap-four (left s at) l h
entered-four s (x ∷ ts) at l h c =
    let t = c.0.token in
    let q : x ≡ t = c.0.shifted ∙ shift_token_lem t in
    let xs = between s at t.start in
    let k = gap_length xs l ∙ h in
    let z = sizes s at t c.0.got in
    let a = gap-four xs l h in
    let b = token-four s t (gap_entered xs l) k in
    let i : four (entered s (beyond s t) ts (token_entered s t (gap_entered xs l))) ≡ four (token_entered s t (gap_entered xs l)) + length (left s (next Old (left s at) at).at) =
    rw (beyond-is s at t c.0.got) (entered-four s ts (next Old (left s at) at).at (token_entered s t (gap_entered xs l)) (token-length s t (gap_entered xs l) ∙ k) c.1) in
    rw q (omega (arith, z, a, b, i))
