-- ONE CALL AS IT WAS before 02, E3: half a symbol and a character that starts nothing are both the Rust's `UnrecognizedToken`. Demand 2 speaks of this definition, in the old reading. The
-- definitions are those that reach such an answer, as they stood in reading/specs; every other reader is reading's own.
use Rattle.std.specs.Prelude.{◌+◌, ℕ, cond, List, [], ◌∷◌, eqb, drop, Ok, Err}
use Rattle.utf8.specs.Chars.{'!, '#, '-, '/, ':, '=, '>, '?, 'L, 'R, 'at, 'backtick, 'dot, 'dquote, 'quote, 'r, '~}
use Rattle.utf8.specs.Utf8.{width_of}
use Rattle.unicode_xid.specs.Identifier.{is_identifier_start}
use Rattle.record.specs.declared.Code.TheVariants.{UnrecognizedToken, UnterminatedCode}
use Rattle.record.specs.declared.Kind.TheVariants.{DotDot, Equals, EqualsEquals, EqualsGreaterThanCode, EqualsGreaterThanLookahead, EqualsGreaterThanLookbehind, EqualsGreaterThanQuestionCode, Lookahead, Lookbehind, MinusGreaterThan, TildeTilde}
use Rattle.record.specs.declared.Reading.{Reading}
use Rattle.scan.specs.IfNext.{if_next}
use Rattle.scan.specs.Shapes.{Skip}
use Rattle.reading.specs.Answers.{fail, more, plain, refuse, told}
use Rattle.reading.specs.Attribute.{hash}
use Rattle.reading.specs.Gaps.{gap, gap_depth_of}
use Rattle.reading.specs.Quotes.{escape, lifetimeish, string_literal}
use Rattle.reading.specs.Regex.{r_word}
use Rattle.reading.specs.Symbols.{arrow_code, bang, colon, single, singles}
use Rattle.reading.specs.Words.{identifierish}
use Rattle.reading.specs.declared.Call.{Call}
use Rattle.reading.specs.declared.What.TheVariants.{End}

-- 01: "Lone `.`, `~`, `-`, `/`, `@` are `UnrecognizedToken` at that character."
-- half a symbol, and a character that starts nothing: both are refused at their first character
unfoldable pub half : ℕ → ℕ → Call
half o at = refuse UnrecognizedToken o at 0

unfoldable pub stray : ℕ → Call
stray o = refuse UnrecognizedToken o o 0

unfoldable pub dot : ℕ → List ℕ → ℕ → Call
dot o cs at = if_next 'dot cs (plain DotDot o (at + 1) 1) (half o at)

unfoldable pub look : ℕ → List ℕ → ℕ → Call
look o cs at = if_next 'L cs (plain Lookahead o (at + 1) 1) (if_next 'R cs (plain Lookbehind o (at + 1) 1) (half o at))

unfoldable pub tilde : ℕ → List ℕ → ℕ → Call
tilde o cs at = if_next '~ cs (plain TildeTilde o (at + 1) 1) (half o at)

unfoldable pub minus : ℕ → List ℕ → ℕ → Call
minus o cs at = if_next '> cs (plain MinusGreaterThan o (at + 1) 1) (half o at)

-- after =>@. 01: "`=>@L` and `=>@R` are tokens, `=>@` otherwise is 1 at its `=`."
unfoldable pub arrow_look : ℕ → List ℕ → ℕ → Call
arrow_look o cs at =
    if_next 'L cs (plain EqualsGreaterThanLookahead o (at + 1) 1) (if_next 'R cs (plain EqualsGreaterThanLookbehind o (at + 1) 1) (half o at))

-- after =>. 01: "`=>` at the end of text is 8"
unfoldable pub right_arrow : Reading → ℕ → List ℕ → ℕ → Call
right_arrow rd o [] at = refuse UnterminatedCode o at 0
right_arrow rd o (c ∷ cs) at =
    cond (eqb c 'at) (more 1 (arrow_look o cs (at + width_of c)))
    (cond (eqb c '?) (more 1 (arrow_code rd EqualsGreaterThanQuestionCode o cs (at + width_of c))) (arrow_code rd EqualsGreaterThanCode o (c ∷ cs) at))

unfoldable pub equals : Reading → ℕ → List ℕ → ℕ → Call
equals rd o cs at = if_next '= cs (plain EqualsEquals o (at + 1) 1) (if_next '> cs (more 1 (right_arrow rd o (drop 1 cs) (at + 1))) (plain Equals o at 0))

-- by the first character c at o; the characters cs stand at next
unfoldable pub starts : Reading → ℕ → List ℕ → ℕ → ℕ → Call
starts rd c cs o next =
    cond (eqb c '!) (more 1 (bang o cs next))
    (cond (eqb c ':) (more 1 (colon o cs next))
    (cond (eqb c 'dot) (more 1 (dot o cs next))
    (cond (eqb c '=) (more 1 (equals rd o cs next))
    (cond (eqb c 'at) (more 1 (look o cs next))
    (cond (eqb c '~) (more 1 (tilde o cs next))
    (cond (eqb c 'backtick) (more 1 (escape o cs next))
    (cond (eqb c 'quote) (more 1 (lifetimeish o cs next))
    (cond (eqb c 'dquote) (more 1 (string_literal o cs next))
    (cond (eqb c '/) (more 1 (half o next))
    (cond (eqb c '-) (more 1 (minus o cs next))
    (cond (eqb c 'r) (more 1 (r_word rd (c ∷ cs) o cs next))
    (cond (is_identifier_start c) (more 1 (identifierish rd (c ∷ cs) o cs next)) (stray o)))))))))))))

unfoldable pub token : Reading → ℕ → List ℕ → ℕ → ℕ → Call
token rd c cs o next = cond (eqb c '#) (more 1 (hash rd o cs next)) (single singles c o next (starts rd c cs o next))

unfoldable pub token_or_end : Reading → List ℕ → ℕ → Call
token_or_end rd [] o = record { what = End; at = o; advances = 0; gap_depth = 0; code_depth = 0 }
token_or_end rd (c ∷ cs) o = token rd c cs o (o + width_of c)

-- (the depths are 02's, E4: both tell the same)
abbrev pub next_by : Reading → List ℕ → Skip → ℕ → Call
next_by rd cs (Ok (p, m)) d = told d (more m (token_or_end rd (drop m cs) p))
next_by rd cs (Err (r, p, m)) d = fail r p m

unfoldable pub next : Reading → List ℕ → ℕ → Call
next rd cs at = next_by rd cs (gap cs at) (gap_depth_of cs at)
