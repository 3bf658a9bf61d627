-- The first character of a sort, and the readers that code and gaps share: the rest of a line, block comments, strings.
use Rattle.std.specs.Prelude.{◌+◌, ℕ, Bool, false, not, List, eqb, Ok, Err}
use Rattle.utf8.specs.Chars.{'#, 'backtick, 'dquote, 'newline, 'quote}
use Rattle.unicode_xid.specs.Identifier.{is_identifier_continue}
use Rattle.record.specs.Records.{refusal}
use Rattle.record.specs.declared.Code.{Code}
use Rattle.record.specs.declared.Code.TheVariants.{UnterminatedBlockComment, UnterminatedStringLiteral}
use Rattle.scan.specs.Readers.{comment_end, regex_end, string_end}
use Rattle.scan.specs.Until.{until}
use Rattle.scan.specs.Shapes.{Found}
use Rattle.scan.specs.Shapes.{Skip}
use Rattle.scan.specs.declared.Sought.{Sought}
use Rattle.scan.specs.declared.Sought.TheVariants.{Backtick, Hashes, Newline, Quote, Word}

-- newline (U+000A alone, as in the Rust), quote, backtick: that character; hashes and words: the first character that is none of theirs.
-- 01: "Backticks hold an escape, no escaping inside."
abbrev pub stop_at : Sought → ℕ → Bool
stop_at Newline c = eqb c 'newline
stop_at Quote c = eqb c 'quote
stop_at Backtick c = eqb c 'backtick
stop_at Hashes c = not (eqb c '#)
stop_at Word c = not (is_identifier_continue c)

abbrev pub seek_step : Sought → Bool → ℕ → Bool
seek_step k b c = stop_at k c

abbrev pub seek_done : Bool → Bool
seek_done b = b

abbrev pub seek : Sought → List ℕ → ℕ → Found
seek k cs at = until (seek_step k) seek_done false cs at 0

-- up to there, or to the end of the text
abbrev pub up_to : Found → Skip
up_to (Ok (p, m)) = Ok (p, m)
up_to (Err (p, m)) = Ok (p, m)

-- 01: "`//` up to but not including newline or end"
abbrev pub line_skip : List ℕ → ℕ → Skip
line_skip cs at = up_to (seek Newline cs at)

-- through the one character that closes what starts at o; or that it is never closed
abbrev pub through : Code → ℕ → Found → Skip
through code o (Ok (p, m)) = Ok (p + 1, m + 1)
through code o (Err (p, m)) = Err (refusal code o, p, m)

-- after the opening quote of a string that starts at o: through its closing quote. 01: "5 exactly if there is none"
abbrev pub string_skip : ℕ → List ℕ → ℕ → Skip
string_skip o cs at = through UnterminatedStringLiteral o (string_end 'dquote cs at)

-- after the slash and the star of a comment that starts at o: through the star and slash that close it; an open one is 10 at o
abbrev pub block_comment : ℕ → List ℕ → ℕ → Skip
block_comment o cs at = through UnterminatedBlockComment o (comment_end cs at)

-- after the opening quote of a regex that starts at o: through the quote and the h hashes that close it. 01: "End: 5 at `r`"
abbrev pub regex_skip : ℕ → ℕ → List ℕ → ℕ → Skip
regex_skip o h cs at = through UnterminatedStringLiteral o (regex_end h cs at)

-- the same with n characters passed before it
abbrev pub skip_more : ℕ → Skip → Skip
skip_more n (Ok (p, m)) = Ok (p, n + m)
skip_more n (Err (r, p, m)) = Err (r, p, n + m)
