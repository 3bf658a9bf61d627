-- What the letter r starts: a regex, a hashed word, or a word. 01: "r then a quote or hashes and a quote: regex, closed by a quote and as many
-- hashes, no escapes. r and one or more hashes before an identifier start make a word. Other character: 9 at it. End: 5 at r."
use Rattle.std.specs.Prelude.{◌+◌, ◌-◌, ℕ, cond, List, [], ◌∷◌, eqb, drop, Ok, Err}
use Rattle.utf8.specs.Chars.{'#, 'dquote}
use Rattle.utf8.specs.Utf8.{width_of}
use Rattle.unicode_xid.specs.Identifier.{is_identifier_start}
use Rattle.record.specs.declared.Code.TheVariants.{ExpectedStringLiteral, UnterminatedStringLiteral}
use Rattle.record.specs.declared.Kind.TheVariants.{RegexLiteral}
use Rattle.record.specs.declared.Reading.{Reading}
use Rattle.scan.specs.IfNext.{if_next}
use Rattle.scan.specs.Readers.{regex_end}
use Rattle.scan.specs.Seek.{seek}
use Rattle.scan.specs.Shapes.{Found}
use Rattle.scan.specs.declared.Sought.TheVariants.{Hashes}
use Rattle.reading.specs.Answers.{deliver, more, refuse}
use Rattle.reading.specs.Words.{identifierish}
use Rattle.reading.specs.declared.Call.{Call}

-- a regex with h hashes that starts at o, its payload at from: closed by a quote and as many hashes, the last of them at q
abbrev pub regex_by : ℕ → ℕ → ℕ → Found → Call
regex_by o h from (Ok (q, m)) = deliver RegexLiteral o from (q - h) (q + 1) (m + 1)
regex_by o h from (Err (q, m)) = refuse UnterminatedStringLiteral o q m

unfoldable pub regex_token : ℕ → ℕ → List ℕ → ℕ → Call
regex_token o h cs at = regex_by o h at (regex_end h cs at)

-- after r at o, where the characters whole stand, and h hashes: a quote, an identifier start, or neither
unfoldable pub hashed : Reading → List ℕ → ℕ → ℕ → List ℕ → ℕ → Call
hashed rd whole o h [] p = refuse UnterminatedStringLiteral o p 0
hashed rd whole o h (c ∷ cs) p =
    cond (eqb c 'dquote) (more 1 (regex_token o h cs (p + width_of c)))
    (cond (is_identifier_start c) (more 1 (identifierish rd whole o cs (p + width_of c))) (refuse ExpectedStringLiteral p p 0))

abbrev pub regex_literal_by : Reading → List ℕ → ℕ → List ℕ → Found → Call
regex_literal_by rd whole o cs (Ok (p, m)) = more m (hashed rd whole o m (drop m cs) p)
regex_literal_by rd whole o cs (Err (p, m)) = refuse UnterminatedStringLiteral o p m

unfoldable pub regex_literal : Reading → List ℕ → ℕ → List ℕ → ℕ → Call
regex_literal rd whole o cs at = regex_literal_by rd whole o cs (seek Hashes cs at)

-- after the letter r at o
unfoldable pub r_word : Reading → List ℕ → ℕ → List ℕ → ℕ → Call
r_word rd whole o cs at = if_next '# cs (regex_literal rd whole o cs at) (if_next 'dquote cs (regex_literal rd whole o cs at) (identifierish rd whole o cs at))
