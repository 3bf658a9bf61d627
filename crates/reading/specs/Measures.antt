-- What the books are kept in. All of it is read off the text and the delivered tokens; no counter is asked.
use Rattle.std.specs.Prelude.{◌+◌, ◌-◌, ◌<◌, ℕ, Bool, ◌&&◌, cond, false, true, List, [], ◌++◌, ◌∷◌, ◌≡◌, eqb, drop, length, Ok, Err}
use Rattle.utf8.specs.Chars.{'!, '#, '[}
use Rattle.utf8.specs.Utf8.{chars, reach, width_of}
use Rattle.record.specs.Numbers.{kind_number}
use Rattle.record.specs.declared.Kind.{Kind}
use Rattle.record.specs.declared.Token.{Token}
use Rattle.record.specs.declared.Reading.{Reading}
use Rattle.scan.specs.IfNext.{if_next}
use Rattle.reading.specs.Attribute.{attempt, dropped}
use Rattle.reading.specs.Blank.{Blank}
use Rattle.reading.specs.Gaps.{gap}
use Rattle.reading.specs.Shapes.{Attempt}

abbrev pub is_hash : Kind → Bool
is_hash k = eqb (kind_number k) 34

abbrev pub is_attribute : Kind → Bool
is_attribute k = eqb (kind_number k) 53

-- the advances of an attempt that fails
abbrev pub failed_by : Attempt → ℕ
failed_by (Ok (p, m)) = 0
failed_by (Err (p, m)) = m

-- what the failed attempt at the place o takes, if the characters from there start with a hash and the attempt fails
unfoldable pub wasted : List ℕ → ℕ → ℕ
wasted [] o = 0
wasted (c ∷ cs) o = cond (eqb c '#) (failed_by (attempt cs (o + width_of c))) 0

-- the same at a place of the text s
abbrev pub wasted_at : List ℕ → ℕ → ℕ
wasted_at s o = wasted (chars (drop o s)) o

-- the sum over the delivered Hash tokens
unfoldable pub attempts : List ℕ → ℕ → List Token → ℕ
attempts s shift [] = 0
attempts s shift (t ∷ ts) = cond (is_hash t.kind) (wasted_at s (t.start - shift)) 0 + attempts s shift ts

-- what is passed after a token of the kind, before the characters cs: the dropped character of an attribute, in the old reading
abbrev pub tail_of : Reading → Kind → List ℕ → ℕ
tail_of rd k cs = cond (is_attribute k) (dropped rd cs) 0

-- how many characters are hashes, and how many places read #![
unfoldable pub hashes : List ℕ → ℕ
hashes [] = 0
hashes (c ∷ cs) = cond (eqb c '#) 1 0 + hashes cs

unfoldable pub reads_attribute : List ℕ → Bool
reads_attribute [] = false
reads_attribute (c ∷ cs) = eqb c '# && if_next '! cs (if_next '[ (drop 1 cs) true false) false

unfoldable pub marks : List ℕ → ℕ
marks [] = 0
marks (c ∷ cs) = cond (reads_attribute (c ∷ cs)) 1 0 + marks cs

-- The characters cs, from the place at, are tiled by the tokens: a gap xs, which holds whitespace and comments only and is all that the gap's
-- reader passes, then the token's characters ys, at least one, then what is dropped after it, zs (in the old reading one character after an attribute,
-- if there is one; else none, and in the kept reading always none); and so on; at last a gap.
pub data Tiled (rd : Reading) (shift : ℕ) : List ℕ → ℕ → List Token → Type 0 where
  gap-last : {cs : List ℕ} {at : ℕ} → gap cs at ≡ Ok (reach cs at, length cs) → Blank [] cs → Tiled rd shift cs at []
  token-next : {cs : List ℕ} {at : ℕ} {t : Token} {ts : List Token} (xs ys zs rest : List ℕ) → cs ≡ xs ++ (ys ++ (zs ++ rest))
      → gap cs at ≡ Ok (reach xs at, length xs)
      → Blank (ys ++ (zs ++ rest)) xs
      → t.start ≡ reach xs at + shift
      → t.end ≡ reach ys (reach xs at) + shift
      → 0 < length ys
      → length zs ≡ tail_of rd t.kind (zs ++ rest)
      → Tiled rd shift rest (reach zs (reach ys (reach xs at))) ts
      → Tiled rd shift cs at (t ∷ ts)
