-- The lines of Unicode's files: `XXXX ; Property # comment`, or `XXXX..YYYY ; Property # comment`; and lines that are empty or start with `#`.
use Rattle.std.specs.Prelude.{ℕ, suc, ◌+◌, Option, Some, None, Bool, true, false, cond, not, List, [], ◌∷◌, eqb, ltb, length, take, drop}
use Rattle.utf8.specs.Chars.{'newline, '#, 'semi}
use Rattle.property.specs.declared.line.Hex.{Hex}
use Rattle.property.specs.declared.line.Property.{Property}
use Rattle.property.specs.declared.line.Property.TheVariants.{Start, Continue, White}
use Rattle.property.specs.declared.line.Line.{Line}
use Rattle.property.specs.declared.line.Line.TheVariants.{Nothing, Range, Damaged}
use Rattle.property.specs.declared.line.Read.{Read}
use Rattle.text.specs.Bytes.{bytes}
use Rattle.property.specs.Hex.{hex_of}

abbrev pub 'space : ℕ
'space = 0x20

-- whether the byte a is b; or, where `same` is false, is not
abbrev pub passes : ℕ → ℕ → Bool → Bool
passes a b same = cond same (eqb a b) (not (eqb a b))

-- how many bytes at the front of a text pass so
unfoldable pub front : ℕ → Bool → List ℕ → ℕ
front b same [] = 0
front b same (a ∷ s) = elim (passes a b same) [ true ↦ suc (front b same s) | false ↦ 0 ]

-- a text after the spaces at its front
abbrev pub past_spaces : List ℕ → List ℕ
past_spaces s = drop (front 'space true s) s

-- whether a text starts with a word
unfoldable pub starts_with : List ℕ → List ℕ → Bool
starts_with [] s = true
starts_with (a ∷ word) [] = false
starts_with (a ∷ word) (b ∷ s) = elim (eqb b a) [ true ↦ starts_with word s | false ↦ false ]

-- the line of code points whose property is told; where none is, damage
abbrev pub ranged : ℕ → ℕ → Option Property → Line
ranged first last (Some p) = Range first last p
ranged first last None = Damaged

-- the name of a property, with the space that ends it. Any other name is damage
unfoldable pub known_of : List ℕ → ℕ → ℕ → Line
known_of s first last =
    cond (starts_with (bytes "XID_Start ") s) (Range first last Start)
    (cond (starts_with (bytes "XID_Continue ") s) (Range first last Continue)
    (cond (starts_with (bytes "White_Space ") s) (Range first last White) Damaged))

-- `;`, and a name after spaces
unfoldable pub semi_of : List ℕ → ℕ → ℕ → Line
semi_of [] first last = Damaged
semi_of (b ∷ s) first last = cond (eqb b 'semi) (known_of (past_spaces s) first last) Damaged

-- what stands after the code points: spaces, `;`, spaces, and a name
abbrev pub named_of : List ℕ → ℕ → ℕ → Line
named_of s first last = semi_of (past_spaces s) first last

-- YYYY, the number h at the front of s, and what stands after it
unfoldable pub last_of : ℕ → Hex → List ℕ → Line
last_of first h s = cond (eqb h.digits 0) Damaged (named_of (drop h.digits s) first h.value)

-- what stands after XXXX: `..YYYY` or nothing, and a name
unfoldable pub range_of : ℕ → List ℕ → Line
range_of first s = cond (starts_with (bytes "..") s) (last_of first (hex_of (drop 2 s)) (drop 2 s)) (named_of s first first)

-- XXXX, the number h at the front of s, and what stands after it
unfoldable pub first_of : Hex → List ℕ → Line
first_of h s = cond (eqb h.digits 0) Damaged (range_of h.value (drop h.digits s))

-- what a line says
unfoldable pub line_of : List ℕ → Line
line_of [] = Nothing
line_of (b ∷ s) = cond (eqb b '#) Nothing (first_of (hex_of (b ∷ s)) (b ∷ s))

-- the line at the front of a text that starts at a place: it ends before a newline or at the end, and the next starts one further
unfoldable pub read_of : List ℕ → ℕ → Read
read_of s at = record { line = line_of (take (front 'newline false s) s); next = at + front 'newline false s + 1 }

-- the line that starts at a place. Past the end there is none
unfoldable pub line_at : List ℕ → ℕ → Read
line_at s at = cond (ltb at (length s)) (read_of (drop at s) at) (record { line = Nothing; next = at })
