-- Small files, by computation.
use Rattle.std.specs.Prelude.{ℕ, ◌≡◌, refl, [], ◌∷◌, map}
use Rattle.property.specs.declared.line.Property.TheVariants.{Start, Continue, White}
use Rattle.property.specs.declared.line.Line.{Line}
use Rattle.property.specs.declared.line.Line.TheVariants.{Nothing, Range, Damaged}
use Rattle.property.specs.declared.line.Read.{Read}
use Rattle.text.specs.Bytes.{bytes}
use Rattle.property.specs.Hex.{digit_of, hex_from, hex_of}
use Rattle.property.specs.Lines.{front, starts_with, known_of, semi_of, last_of, range_of, first_of, line_of, read_of, line_at}

-- a range, one code point, a comment, an empty line
pub told :
    map line_of
    (bytes "0041..005A    ; XID_Start # L&  [26] A..Z" ∷ bytes "00B7          ; XID_Continue # Po" ∷ bytes "10FFFF;White_Space " ∷ bytes "# 0041" ∷ [] ∷ [])
    ≡ Range 0x41 0x5A Start ∷ Range 0xB7 0xB7 Continue ∷ Range 0x10FFFF 0x10FFFF White ∷ Nothing ∷ Nothing ∷ []
unfolding bytes digit_of hex_from hex_of front starts_with known_of semi_of last_of range_of first_of line_of
told = refl

-- no digit, no last digit, no `;`, a name that goes on, another property, too many digits
pub damaged :
    map line_of
    (bytes " 0041 ; XID_Start #" ∷ bytes "0041.. ; XID_Start #" ∷ bytes "0041 XID_Start #" ∷ bytes "0041 ; XID_Starts #" ∷ bytes "0041 ; Dash #" ∷
    bytes "10000000 ; XID_Start #" ∷ [])
    ≡ Damaged ∷ Damaged ∷ Damaged ∷ Damaged ∷ Damaged ∷ Damaged ∷ []
unfolding bytes digit_of hex_from hex_of front starts_with known_of semi_of last_of range_of first_of line_of
damaged = refl

abbrev read : Line → ℕ → Read
read line next = record { line = line; next = next }

-- a file of two lines, the last with no newline: each line's place is the one that the line before it tells
pub placed :
    map (line_at (bytes "#\n20 ; White_Space ")) (0 ∷ 2 ∷ 20 ∷ [])
    ≡ read Nothing 2 ∷ read (Range 0x20 0x20 White) 20 ∷ read Nothing 20 ∷ []
unfolding bytes digit_of hex_from hex_of front starts_with known_of semi_of last_of range_of first_of line_of read_of line_at
placed = refl
