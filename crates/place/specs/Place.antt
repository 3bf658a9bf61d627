-- Lines and columns as editors count them, and places. Places here have no shift. Quoted: 02, E1.
use Rattle.std.specs.Prelude.{ℕ, zero, suc, ◌+◌, ◌-◌, Bool, false, cond, ◌||◌, List, [], ◌∷◌, eqb, ltb, Result, Ok, Err}
use Rattle.utf8.specs.Chars.{'carriage_return, 'newline}
use Rattle.utf8.specs.Utf8.{chars, width_of}
use Rattle.record.specs.Checks.{checks}
use Rattle.record.specs.declared.Refusal.{Refusal}
use Rattle.place.specs.declared.Place.{Place}

-- "column in UTF-16 units": a character above FFFF takes two
unfoldable pub units : ℕ → ℕ
units c = cond (ltb 0xFFFF c) 2 1

unfoldable pub starts_newline : List ℕ → Bool
starts_newline [] = false
starts_newline (c ∷ cs) = eqb c 'newline

-- "a line ends at LF, CR LF or a lone CR": how many characters the line's end has that the characters start with; 0 where they start with none
unfoldable pub line_end : List ℕ → ℕ
line_end [] = 0
line_end (c ∷ cs) =
    -- LF
    cond (eqb c 'newline) 1
    (cond (eqb c 'carriage_return)
    -- CR LF, or a lone CR
    (cond (starts_newline cs) 2 1)
    0)

-- whether a line ends with the character c, before the characters cs: it is the last of the line's end
unfoldable pub ends : ℕ → List ℕ → Bool
ends c cs = eqb (line_end (c ∷ cs)) 1

-- "a place inside a character is taken back to its first byte": how many characters stand before the place p. One beyond the text has all
unfoldable pub before : ℕ → List ℕ → ℕ
before p [] = 0
before p (c ∷ cs) = cond (ltb p (width_of c)) 0 (suc (before (p - width_of c) cs))

-- the line: how many lines end with one of the first n characters. So "a place between CR and LF belongs to the line they end"
unfoldable pub lines_ended : ℕ → List ℕ → ℕ
lines_ended zero cs = 0
lines_ended (suc n) [] = 0
lines_ended (suc n) (c ∷ cs) = cond (ends c cs) 1 0 + lines_ended n cs

-- the column: the units of the first n characters since the last end, where u came before them
unfoldable pub units_since : ℕ → ℕ → List ℕ → ℕ
units_since u zero cs = u
units_since u (suc n) [] = u
units_since u (suc n) (c ∷ cs) = units_since (cond (ends c cs) 0 (u + units c)) n cs

-- "line and column from 0", over the characters of a text; of an ill-formed one, over those of its well_formed_lem beginning
unfoldable pub line_column : List ℕ → ℕ → Place
line_column s p = record { line = lines_ended (before p (chars s)) (chars s); column = units_since 0 (before p (chars s)) (chars s) }

-- "Refusals: 12, then 11 (shift 0)."
unfoldable pub answered : {A : Type 0} → Result Unit Refusal → A → (Refusal → A) → A
answered (Ok tt) x refused = x
answered (Err r) x refused = refused r

unfoldable pub reported : List ℕ → ℕ → Result Place Refusal
reported s p = answered (checks s 0) (Ok (line_column s p)) Err

-- And back, by the protocol: how many bytes stand before the place after n lines and u units more.
unfoldable pub bytes_to : ℕ → ℕ → List ℕ → ℕ
-- a line beyond the last is the text's end, and so is a column beyond the end of the last line
bytes_to n u [] = 0
bytes_to (suc n) u (c ∷ cs) = width_of c + bytes_to (cond (ends c cs) n (suc n)) u cs
-- a column beyond the line is the line's end, before its CR or LF; one inside a pair is the character's first byte
bytes_to zero u (c ∷ cs) = cond (ltb 0 (line_end (c ∷ cs)) || ltb u (units c)) 0 (width_of c + bytes_to zero (u - units c) cs)

unfoldable pub place_at : List ℕ → ℕ → ℕ → ℕ
place_at s line column = bytes_to line column (chars s)

unfoldable pub located : List ℕ → ℕ → ℕ → Result ℕ Refusal
located s line column = answered (checks s 0) (Ok (place_at s line column)) Err
