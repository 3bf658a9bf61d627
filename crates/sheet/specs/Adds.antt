-- WHAT ONE TEXT ADDS, read alone. 02, E2: "each read with shift 0 and a work limit of 2^50, and keeps exact totals: tokens of each kind, characters in
-- tokens, in whitespace, in comments and dropped after attributes, advances, failed attempts."
use Rattle.std.specs.Prelude.{◌+◌, ℕ, cond, List, [], ◌∷◌, eqb, ltb, get_or, length, replicate, set, Option, Some, None, Ok, Err}
use Rattle.utf8.specs.Chars.{'#}
use Rattle.utf8.specs.Utf8.{width_of}
use Rattle.record.specs.Numbers.{code_number, kind_number}
use Rattle.record.specs.declared.Token.{Token}
use Rattle.record.specs.declared.Reading.TheVariants.{Old}
use Rattle.scan.specs.Depth.{deeper}
use Rattle.scan.specs.Far.{after}
use Rattle.scan.specs.Until.{left}
use Rattle.reading.specs.Answers.{start_state}
use Rattle.reading.specs.Attribute.{attempt}
use Rattle.reading.specs.Measures.{tail_of}
use Rattle.reading.specs.Run.{Run}
use Rattle.reading.specs.Shapes.{Attempt}
use Rattle.reading.specs.declared.Outcome.{Outcome}
use Rattle.reading.specs.declared.Outcome.TheVariants.{Ended, Refused, Running}
use Rattle.run.specs.Checked.{whole_run}
use Rattle.sheet.specs.Apart.{comments, whites}

-- A sheet is 96 numbers: 0 to 53 are the tokens of each kind, by its number. The others by name; a code's tally has its number more.
abbrev pub sheet_size : ℕ
sheet_size = 96

abbrev pub in_tokens : ℕ
in_tokens = 54

abbrev pub in_whitespace : ℕ
in_whitespace = 55

abbrev pub in_comments : ℕ
in_comments = 56

abbrev pub dropped_after : ℕ
dropped_after = 57

abbrev pub advances_in : ℕ
advances_in = 58

abbrev pub failed_in : ℕ
failed_in = 59

abbrev pub texts_taken : ℕ
texts_taken = 60

-- 02, E4: "the sheet the largest"
abbrev pub deepest_in : ℕ
deepest_in = 61

abbrev pub tallies : ℕ
tallies = 64

unfoldable pub empty_sheet : List ℕ
empty_sheet = replicate sheet_size 0

-- a sheet with n more in its number i
unfoldable pub enter : ℕ → ℕ → List ℕ → List ℕ
enter i n sheet = set sheet i (get_or sheet i 0 + n)

-- the characters cs, the first at the place a, that stand before the place b
unfoldable pub up_to : List ℕ → ℕ → ℕ → List ℕ
up_to [] a b = []
up_to (c ∷ cs) a b = cond (ltb a b) (c ∷ up_to cs (a + width_of c) b) []

-- the characters of the text s from the place a to the place b
unfoldable pub between : List ℕ → ℕ → ℕ → List ℕ
between s a b = up_to (left s a) a b

-- whether the attempt at the place o fails: the characters from there start with a hash, and it is no attribute
abbrev pub failing : Attempt → ℕ
failing (Ok (p, m)) = 0
failing (Err (p, m)) = 1

unfoldable pub fails : List ℕ → ℕ → ℕ
fails [] o = 0
fails (c ∷ cs) o = cond (eqb c '#) (failing (attempt cs (o + width_of c))) 0

-- what is dropped after the token t, in the old reading, which is a sheet's: one character after an attribute, if there is one; and the place after it
abbrev pub drops : List ℕ → Token → ℕ
drops s t = tail_of Old t.kind (left s t.end)

unfoldable pub beyond : List ℕ → Token → ℕ
beyond s t = after (drops s t) (left s t.end) t.end

-- a gap's characters are entered
unfoldable pub gap_entered : List ℕ → List ℕ → List ℕ
gap_entered xs sheet = enter in_comments (comments xs) (enter in_whitespace (whites xs) sheet)

-- so is a token: one of its kind, its characters, what is dropped after it, and the attempt that failed at its place
unfoldable pub token_entered : List ℕ → Token → List ℕ → List ℕ
token_entered s t sheet =
    enter failed_in (fails (left s t.start) t.start)
    (enter dropped_after (drops s t)
    (enter in_tokens (length (between s t.start t.end))
    (enter (kind_number t.kind) 1 sheet)))

-- the tokens ts of the text s from the place at on, each after its gap, and then the last gap
unfoldable pub entered : List ℕ → ℕ → List Token → List ℕ → List ℕ
entered s at [] sheet = gap_entered (left s at) sheet
entered s at (t ∷ ts) sheet = entered s (beyond s t) ts (token_entered s t (gap_entered (between s at t.start) sheet))

-- "each read with shift 0 and a work limit of 2^50": a run into a list that has room for a token at each byte
abbrev pub work_limit : ℕ
work_limit = 0x4000000000000

unfoldable pub story : List ℕ → Run
story s = whole_run s 0 work_limit (length s) start_state

-- 02, E4: "a record keeps two, for the gap before it and for its code; the last gap's stands beside the count": the greatest depth that a token tells
abbrev pub depth_in : Option ℕ → ℕ
depth_in (Some n) = n
depth_in None = 0

abbrev pub token_depth : Token → ℕ
token_depth t = deeper (depth_in t.gap_depth) (depth_in t.code_depth)

-- that the tokens tell, where it was d before them
unfoldable pub depth_over : List Token → ℕ → ℕ
depth_over [] d = d
depth_over (t ∷ ts) d = depth_over ts (deeper d (token_depth t))

-- and that a run tells
unfoldable pub greatest : Run → ℕ
greatest r = deeper (depth_over r.tokens 0) r.last

-- "A text that ends in an error, 15 included, adds one to that error's tally and nothing else."
abbrev pub adds_by : List ℕ → Run → Outcome → List ℕ
adds_by s r Ended = enter deepest_in (greatest r) (enter advances_in r.state.count (entered s 0 r.tokens empty_sheet))
adds_by s r (Refused z) = enter (tallies + code_number z.code) 1 empty_sheet
-- no whole run answers so
adds_by s r Running = empty_sheet

-- and it is one text taken: "failed ones counted"
unfoldable pub adds : List ℕ → List ℕ
adds s = enter texts_taken 1 (adds_by s (story s) (story s).how)
