-- THE TABLE that the command `sheet` prints, as pieces that are put one after another. The request for it: "a table that a planner can read, kinds with their counts and
-- shares (kinds that never occur left out, said at the foot), the four character totals with their shares, advances, failed attempts, errors by name, texts
-- taken and refused".
use Rattle.std.specs.Prelude.{ℕ, suc, ◌+◌, ◌-◌, ◌*◌, ◌/◌, ◌%◌, Bool, true, ◌&&◌, cond, not, List, [], ◌∷◌, ◌++◌, ◌≡◌, eqb, leb, drop, get_or, length, replicate, take, Option}
use Rattle.text.specs.Bytes.{bytes, join}
use Rattle.text.specs.Digits.{digits, width}
use Rattle.text.specs.Lay.{lay_all}
use Rattle.text.specs.Names.{code_name, kind_name}
use Rattle.sheet.specs.Adds.{advances_in, dropped_after, failed_in, in_comments, in_tokens, in_whitespace, sheet_size, tallies, texts_taken, work_limit}
use Rattle.sheet.specs.Sheet.{within}

-- what is put into a buffer d, where bytes came to before: pieces, as many whole ones as fit; r is how far they came, and held what the buffer holds
abbrev pub Put : List ℕ → Option ℕ → List (List ℕ) → Option ℕ → List ℕ → Type 0
Put d from ps r held = (r ≡ (lay_all d from ps).to) × (held ≡ (lay_all d from ps).held)

unfoldable pub spaces : ℕ → List ℕ
spaces n = replicate n 32

-- the columns of a name, with its indent, and of a number
abbrev pub name_columns : ℕ
name_columns = 34

abbrev pub number_columns : ℕ
number_columns = 12

-- a number at the right of its columns; a longer one simply takes more
abbrev pub at_right : ℕ → ℕ → List (List ℕ)
at_right columns n = spaces (columns - width n) ∷ digits n ∷ []

-- a line up to its number: the words of its name, spaces up to the name's last column, and the number
unfoldable pub line : List (List ℕ) → ℕ → List (List ℕ)
line name n = name ++ (spaces (name_columns - length (join name)) ∷ at_right number_columns n)

-- the name of a kind or an error stands below another, with an indent
abbrev pub indented : List ℕ → List (List ℕ)
indented name = bytes "  " ∷ name ∷ []

unfoldable pub plain_line : List (List ℕ) → ℕ → List (List ℕ)
plain_line name n = line name n ++ (bytes "\n" ∷ [])

-- what n is of all, in tenths of a percent, rounded to the nearest, half up; nothing is no share of nothing
unfoldable pub tenths : ℕ → ℕ → ℕ
tenths n all = cond (eqb all 0) 0 ((2000 * n + all) / (2 * all))

-- a share as people read it: its whole part at the right of five columns, and one decimal
unfoldable pub share : ℕ → List (List ℕ)
share t = at_right 5 (t / 10) ++ (bytes "." ∷ digits (t % 10) ∷ bytes "%\n" ∷ [])

unfoldable pub share_line : List (List ℕ) → ℕ → ℕ → List (List ℕ)
share_line name n all = line name n ++ share (tenths n all)

-- ---- many numbers
unfoldable pub total : List ℕ → ℕ
total [] = 0
total (n ∷ ns) = n + total ns

-- what f says of each number and its index, the first index being i
unfoldable pub each : (ℕ → ℕ → List (List ℕ)) → ℕ → List ℕ → List (List ℕ)
each f i [] = []
each f i (n ∷ ns) = f i n ++ each f (suc i) ns

-- a kind that occurs has a line, with its share of all tokens
unfoldable pub kind_line : ℕ → ℕ → ℕ → List (List ℕ)
kind_line all kind n = cond (eqb n 0) [] (share_line (indented (kind_name kind)) n all)

-- so has an error with a tally
unfoldable pub error_line : ℕ → ℕ → List (List ℕ)
error_line code n = cond (eqb n 0) [] (plain_line (indented (code_name code)) n)

-- a kind that never occurs is said at the foot
unfoldable pub absent_kind : ℕ → ℕ → List (List ℕ)
absent_kind kind n = cond (eqb n 0) (bytes " " ∷ kind_name kind ∷ []) []

unfoldable pub all_occur : List ℕ → Bool
all_occur [] = true
all_occur (n ∷ ns) = not (eqb n 0) && all_occur ns

-- ---- the parts of the table
unfoldable pub token_lines : List ℕ → List (List ℕ)
token_lines counts = plain_line (bytes "tokens" ∷ []) (total counts) ++ each (kind_line (total counts)) 0 counts

unfoldable pub character_lines : List ℕ → ℕ → List (List ℕ)
character_lines sheet all =
    plain_line (bytes "characters" ∷ []) all
    ++ (share_line (bytes "  in tokens" ∷ []) (get_or sheet in_tokens 0) all
    ++ (share_line (bytes "  in whitespace" ∷ []) (get_or sheet in_whitespace 0) all
    ++ (share_line (bytes "  in comments" ∷ []) (get_or sheet in_comments 0) all
    ++ share_line (bytes "  dropped after attributes" ∷ []) (get_or sheet dropped_after 0) all)))

-- "what they cost is advances less characters"
unfoldable pub advance_lines : List ℕ → ℕ → List (List ℕ)
advance_lines sheet all =
    plain_line (bytes "advances" ∷ []) (get_or sheet advances_in 0)
    ++ (plain_line (bytes "  of failed attempts" ∷ []) (get_or sheet advances_in 0 - all)
    ++ plain_line (bytes "failed attempts" ∷ []) (get_or sheet failed_in 0))

-- a sheet's tallies of the errors that have a name, from code 1 on
unfoldable pub errors : List ℕ → List ℕ
errors sheet = take 29 (drop (tallies + 1) sheet)

unfoldable pub text_lines : List ℕ → ℕ → List (List ℕ)
text_lines sheet refused =
    plain_line (bytes "texts taken" ∷ []) (get_or sheet texts_taken 0)
    ++ (each error_line 1 (errors sheet)
    ++ plain_line (bytes "texts refused" ∷ []) refused)

unfoldable pub foot : List ℕ → List (List ℕ)
foot counts = cond (all_occur counts) [] (bytes "kinds that never occur:" ∷ (each absent_kind 0 counts ++ (bytes "\n" ∷ [])))

-- the tokens of each of the 54 kinds, and all characters of the texts that reached their end
abbrev pub kinds : List ℕ → List ℕ
kinds sheet = take 54 sheet

abbrev pub characters : List ℕ → ℕ
characters sheet = total (take 4 (drop in_tokens sheet))

unfoldable pub shown_lines : List ℕ → ℕ → List (List ℕ)
shown_lines sheet refused =
    token_lines (kinds sheet)
    ++ (character_lines sheet (characters sheet)
    ++ (advance_lines sheet (characters sheet)
    ++ (text_lines sheet refused
    ++ foot (kinds sheet))))

-- numbers that are no sheet, or whose sums could be too large, have no table: a caller can hand in any
unfoldable pub is_shown : List ℕ → Bool
is_shown sheet = leb sheet_size (length sheet) && within work_limit (take 58 sheet)

unfoldable pub table_pieces : List ℕ → ℕ → List (List ℕ)
table_pieces sheet refused = cond (is_shown sheet) (shown_lines sheet refused) []
