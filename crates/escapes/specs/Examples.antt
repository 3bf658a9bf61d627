-- 01's examples of expansion with idx0 0, and what the Rust does where 01 leaves room: a table, and one claim of all its rows.
use Rattle.std.specs.Prelude.{ℕ, ◌≡◌, refl, List, [], ◌∷◌, ◌++◌, map, Result, Ok, Err}
use Rattle.utf8.specs.Utf8.{low, high, lead, sight, chars_from, chars, width_of, reach}
use Rattle.utf8.specs.Chars.{'backslash, 'n, 'newline, 't, 'tab, '0, 'nul, 'x, 'a}
use Rattle.record.specs.declared.Code.{Code}
use Rattle.record.specs.declared.Code.TheVariants.{UnterminatedAsciiEscape, UnrecognizedEscape, TrailingBackslash, NotUtf8, NoRoom}
use Rattle.record.specs.Records.{refusal}
use Rattle.record.specs.Checks.{checks}
use Rattle.escapes.specs.declared.Held.TheVariants.{Text, Buffer}
use Rattle.escapes.specs.Escapes.{'F, digit, ascii_escape, escape, stands, Outcome, gives, refused, expand_from, expand, has_byte}
use Rattle.escapes.specs.Answers.{part, Done, expanded, applied}
use Rattle.escapes.specs.declared.Part.{Part}
use Rattle.record.specs.declared.Refusal.{Refusal}

abbrev '4 : ℕ
'4 = 52

abbrev '7 : ℕ
'7 = 55

abbrev 'q : ℕ
'q = 113

abbrev é : List ℕ
é = 0xC3 ∷ 0xA9 ∷ []

abbrev is : Code → ℕ → Outcome
is code place = refused (refusal code place)

-- a text, and its expansion
unfoldable pub table : List (List ℕ × Outcome)
table =
    (('backslash ∷ 'x ∷ '7 ∷ 'F ∷ []), gives (127 ∷ []))
    ∷ (('backslash ∷ 'x ∷ 'F ∷ 'F ∷ []), is UnrecognizedEscape 1)
    ∷ (('backslash ∷ 'x ∷ []), is UnterminatedAsciiEscape 1)
    ∷ (('backslash ∷ 'x ∷ '4 ∷ []), is UnterminatedAsciiEscape 2)
    ∷ (('backslash ∷ []), is TrailingBackslash 0)
    ∷ (('backslash ∷ 'x ∷ é), is UnterminatedAsciiEscape 2)
    ∷ (é ++ ('backslash ∷ 'x ∷ []), is UnterminatedAsciiEscape 3)
    ∷ (('backslash ∷ 'x ∷ é) ++ é, is UnrecognizedEscape 1)
    ∷ (('backslash ∷ é), is UnrecognizedEscape 1)
    ∷ (('backslash ∷ 'x ∷ 'backslash ∷ []), is UnterminatedAsciiEscape 2)
    ∷ (('backslash ∷ 'x ∷ '4 ∷ 'backslash ∷ []), is UnrecognizedEscape 1)
    ∷ (('backslash ∷ 'q ∷ 'backslash ∷ []), is UnrecognizedEscape 1)
    ∷ (('backslash ∷ 'n ∷ é) ++ ('backslash ∷ '0 ∷ 'a ∷ []), gives ('newline ∷ 0xC3 ∷ 0xA9 ∷ 'nul ∷ 'a ∷ []))
    ∷ []

pub examples : map (λ (row : List ℕ × Outcome). expand row.0 0) table ≡ map (λ (row : List ℕ × Outcome). row.1) table
unfolding table expand expand_from stands escape ascii_escape digit chars chars_from sight lead low high
examples = refl

-- the whole answer to a text, with idx0 7, for a place of the buffer 1 2 3 4
abbrev given : List ℕ
given = 1 ∷ 2 ∷ 3 ∷ 4 ∷ []

abbrev row : List ℕ → ℕ → Result Part Refusal → List ℕ → (List ℕ × ℕ) × Done
row s place a d = ((s, place), record { answer = a; buffer = d })

unfoldable pub answers : List ((List ℕ × ℕ) × Done)
answers =
    -- written in the middle; the text itself, wherever the place is
    row ('backslash ∷ 't ∷ 'a ∷ []) 1 (Ok (part Buffer 1 3)) (1 ∷ 'tab ∷ 'a ∷ 4 ∷ [])
    ∷ row ('t ∷ 'a ∷ []) 9 (Ok (part Text 0 2)) given
    -- no room, and a refusal that comes before it; a text that is not UTF-8
    ∷ row ('backslash ∷ 't ∷ 'a ∷ []) 3 (Err (refusal NoRoom 7)) given
    ∷ row ('backslash ∷ 't ∷ 'backslash ∷ 'q ∷ []) 9 (Err (refusal UnrecognizedEscape 10)) given
    ∷ row ('backslash ∷ 'q ∷ 0xC3 ∷ []) 0 (Err (refusal NotUtf8 9)) given
    ∷ []

pub answered :
    map (λ (r : (List ℕ × ℕ) × Done). applied r.0.0 7 given r.0.1) answers ≡ map (λ (r : (List ℕ × ℕ) × Done). r.1) answers
unfolding answers applied expanded checks has_byte expand expand_from stands escape ascii_escape digit chars chars_from sight lead low high reach width_of
answered = refl
