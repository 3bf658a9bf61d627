-- What the checks of parts and the place reporter answer, by computation.
use Rattle.std.specs.Prelude.{List, [], ◌∷◌, ◌≡◌, refl, ℕ, Result, Ok, Err}
use Rattle.utf8.specs.Utf8.{chars, chars_from, high, lead, low, sight, width_of}
use Rattle.record.specs.Records.{refusal, token_of}
use Rattle.record.specs.declared.Code.TheVariants.{BadRecord}
use Rattle.record.specs.declared.Kind.TheVariants.{RegexLiteral}
use Rattle.run.specs.Payload.{is_payload, payload, payload_check}
use Rattle.escapes.specs.Answers.{range_check}
use Rattle.place.specs.Place.{before, bytes_to, ends, line_end, line_column, lines_ended, place_at, starts_newline, units, units_since}
use Rattle.place.specs.declared.Place.{Place}
use Rattle.record.specs.declared.Refusal.{Refusal}

-- `r"é"`, five bytes, read with shift 7: its payload is the two bytes of the letter
abbrev letter : List ℕ
letter = 114 ∷ 34 ∷ 195 ∷ 169 ∷ 34 ∷ []

abbrev check_of : ℕ → ℕ → Result Unit Refusal
check_of a b = payload_check letter 7 (token_of RegexLiteral 7 12 a b)

abbrev bad : Result Unit Refusal
bad = Err (refusal BadRecord 0)

-- the letter; half of it; before the shift; backwards; beyond the text; the empty part at its end
pub payloads : (check_of 9 11 ≡ (Ok tt)) × (check_of 9 10 ≡ bad) × (check_of 6 8 ≡ bad) × (check_of 11 9 ≡ bad) × (check_of 12 13 ≡ bad) × (check_of 12 12 ≡ (Ok tt))
unfolding is_payload payload_check
payloads = (refl, refl, refl, refl, refl, refl)

pub payload-bytes : (payload letter 7 (token_of RegexLiteral 7 12 9 11) ≡ 195 ∷ 169 ∷ []) × (payload letter 7 (token_of RegexLiteral 7 12 9 10) ≡ [])
unfolding is_payload payload
payload-bytes = (refl, refl)

-- of three bytes: a range that ends at the end, one beyond it, one backwards, the empty one at the end
pub ranges : (range_check 3 1 3 ≡ (Ok tt)) × (range_check 3 2 4 ≡ bad) × (range_check 3 2 1 ≡ bad) × (range_check 3 3 3 ≡ (Ok tt))
unfolding range_check
ranges = (refl, refl, refl, refl)

-- `a`, CR, LF, `b`, LF, CR, LF, CR: CR LF is one end of a line, LF and a lone CR are one each; at 2 and 6, between CR and LF, the CR counts as one unit; a
-- place beyond the text is its end
abbrev lines : List ℕ
lines = 97 ∷ 13 ∷ 10 ∷ 98 ∷ 10 ∷ 13 ∷ 10 ∷ 13 ∷ []

abbrev at : ℕ → ℕ → Place
at l c = record { line = l; column = c }

pub places :
    (line_column lines 0 ≡ at 0 0) × (line_column lines 1 ≡ at 0 1) × (line_column lines 2 ≡ at 0 2) × (line_column lines 3 ≡ at 1 0) × (line_column lines 4 ≡ at 1 1)
    × (line_column lines 5 ≡ at 2 0) × (line_column lines 6 ≡ at 2 1) × (line_column lines 7 ≡ at 3 0) × (line_column lines 8 ≡ at 4 0) × (line_column lines 99 ≡ at 4 0)
unfolding line_column before lines_ended units_since ends line_end starts_newline units chars chars_from sight lead low high width_of
places = (refl, refl, refl, refl, refl, refl, refl, refl, refl, refl)

-- and back: the same places but those between CR and LF; a column beyond the line is its end, a line beyond the last is the text's
pub back :
    (place_at lines 0 0 ≡ 0) × (place_at lines 0 1 ≡ 1) × (place_at lines 0 2 ≡ 1) × (place_at lines 1 0 ≡ 3) × (place_at lines 1 9 ≡ 4)
    × (place_at lines 2 1 ≡ 5) × (place_at lines 3 9 ≡ 7) × (place_at lines 4 0 ≡ 8) × (place_at lines 5 0 ≡ 8)
unfolding place_at bytes_to ends line_end starts_newline units chars chars_from sight lead low high width_of
back = (refl, refl, refl, refl, refl, refl, refl, refl, refl)

-- é, U+FFFF, U+10000 and U+1F600, of two, three, four and four bytes: the first two are one unit, the others two. A place inside one is its first byte's
abbrev wide : List ℕ
wide = 0xC3 ∷ 0xA9 ∷ 0xEF ∷ 0xBF ∷ 0xBF ∷ 0xF0 ∷ 0x90 ∷ 0x80 ∷ 0x80 ∷ 0xF0 ∷ 0x9F ∷ 0x98 ∷ 0x80 ∷ []

pub wide_places :
    (line_column wide 1 ≡ at 0 0) × (line_column wide 2 ≡ at 0 1) × (line_column wide 4 ≡ at 0 1) × (line_column wide 5 ≡ at 0 2)
    × (line_column wide 8 ≡ at 0 2) × (line_column wide 9 ≡ at 0 4) × (line_column wide 12 ≡ at 0 4) × (line_column wide 13 ≡ at 0 6)
unfolding line_column before lines_ended units_since ends line_end starts_newline units chars chars_from sight lead low high width_of
wide_places = (refl, refl, refl, refl, refl, refl, refl, refl)

-- and back: a column inside a pair is the character's first byte
pub wide_back : (place_at wide 0 1 ≡ 2) × (place_at wide 0 2 ≡ 5) × (place_at wide 0 3 ≡ 5) × (place_at wide 0 4 ≡ 9) × (place_at wide 0 5 ≡ 9) × (place_at wide 0 6 ≡ 13)
unfolding place_at bytes_to ends line_end starts_newline units chars chars_from sight lead low high width_of
wide_back = (refl, refl, refl, refl, refl, refl)
