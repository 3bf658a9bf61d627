-- Symbols. Each reader of a longer symbol stands after its first character; that one stands at o, the characters cs at at.
use Rattle.std.specs.Prelude.{◌+◌, ℕ, cond, List, [], ◌∷◌, eqb, drop}
use Rattle.utf8.specs.Chars.{'&, '*, '+, ':, '<, '=, '>, '?, 'L, 'R, '[, '], 'at, 'brace, 'comma, 'dot, 'paren, 'semi, 'unbrace, 'unparen, '~}
use Rattle.utf8.specs.Utf8.{width_of}
use Rattle.record.specs.declared.Code.TheVariants.{HalfSymbol, StrayCharacter, UnterminatedCode}
use Rattle.record.specs.declared.Kind.{Kind}
use Rattle.record.specs.declared.Kind.TheVariants.{Ampersand, Bang, BangEquals, BangTilde, Colon, ColonColon, Comma, DotDot, Equals, EqualsEquals, EqualsGreaterThanCode, EqualsGreaterThanLookahead, EqualsGreaterThanLookbehind, EqualsGreaterThanQuestionCode, GreaterThan, LeftBrace, LeftBracket, LeftParen, LessThan, Lookahead, Lookbehind, MinusGreaterThan, Plus, Question, RightBrace, RightBracket, RightParen, Semi, Star, TildeTilde}
use Rattle.record.specs.declared.Reading.{Reading}
use Rattle.scan.specs.IfNext.{if_next}
use Rattle.code.specs.Code.{code_depth_of, code_end}
use Rattle.reading.specs.Answers.{more, plain, refuse}
use Rattle.reading.specs.Words.{code_token}
use Rattle.reading.specs.declared.Call.{Call}

-- & , > { [ ( < + ? } ] ) ; *
unfoldable pub singles : List (ℕ × Kind)
singles =
    ('&, Ampersand) ∷ ('comma, Comma) ∷ ('>, GreaterThan) ∷ ('brace, LeftBrace) ∷ ('[, LeftBracket) ∷ ('paren, LeftParen) ∷ ('<, LessThan)
    ∷ ('+, Plus) ∷ ('?, Question) ∷ ('unbrace, RightBrace) ∷ ('], RightBracket) ∷ ('unparen, RightParen) ∷ ('semi, Semi) ∷ ('*, Star) ∷ []

unfoldable pub single : List (ℕ × Kind) → ℕ → ℕ → ℕ → Call → Call
single [] c o next other = other
single (k ∷ ks) c o next other = cond (eqb c k.0) (plain k.1 o next 1) (single ks c o next other)

-- 01: "Lone `.`, `~`, `-`, `/`, `@` are `UnrecognizedToken` at that character." 02, E3: "Split it: half a symbol (`.`, `~`, `-`, `/`, `@`, or `=>@` without
-- L or R) against a character that starts nothing. The place stays." (01's own answer stands in unknown/specs/Rust.)
unfoldable pub half : ℕ → ℕ → Call
half o at = refuse HalfSymbol o at 0

unfoldable pub stray : ℕ → Call
stray o = refuse StrayCharacter o o 0

unfoldable pub bang : ℕ → List ℕ → ℕ → Call
bang o cs at = if_next '= cs (plain BangEquals o (at + 1) 1) (if_next '~ cs (plain BangTilde o (at + 1) 1) (plain Bang o at 0))

unfoldable pub colon : ℕ → List ℕ → ℕ → Call
colon o cs at = if_next ': cs (plain ColonColon o (at + 1) 1) (plain Colon o at 0)

unfoldable pub dot : ℕ → List ℕ → ℕ → Call
dot o cs at = if_next 'dot cs (plain DotDot o (at + 1) 1) (half o at)

unfoldable pub look : ℕ → List ℕ → ℕ → Call
look o cs at = if_next 'L cs (plain Lookahead o (at + 1) 1) (if_next 'R cs (plain Lookbehind o (at + 1) 1) (half o at))

unfoldable pub tilde : ℕ → List ℕ → ℕ → Call
tilde o cs at = if_next '~ cs (plain TildeTilde o (at + 1) 1) (half o at)

unfoldable pub minus : ℕ → List ℕ → ℕ → Call
minus o cs at = if_next '> cs (plain MinusGreaterThan o (at + 1) 1) (half o at)

-- after =>@. 01: "`=>@L` and `=>@R` are tokens, `=>@` otherwise is 1 at its `=`." By 02, E3 it is 22 there.
unfoldable pub arrow_look : ℕ → List ℕ → ℕ → Call
arrow_look o cs at =
    if_next 'L cs (plain EqualsGreaterThanLookahead o (at + 1) 1) (if_next 'R cs (plain EqualsGreaterThanLookbehind o (at + 1) 1) (half o at))

unfoldable pub arrow_code : Reading → Kind → ℕ → List ℕ → ℕ → Call
arrow_code rd kind o cs at = code_token kind o at (code_end rd o cs at) (code_depth_of rd cs at)

-- after =>. 01: "`=>` at the end of text is 8"
unfoldable pub right_arrow : Reading → ℕ → List ℕ → ℕ → Call
right_arrow rd o [] at = refuse UnterminatedCode o at 0
right_arrow rd o (c ∷ cs) at =
    cond (eqb c 'at) (more 1 (arrow_look o cs (at + width_of c)))
    (cond (eqb c '?) (more 1 (arrow_code rd EqualsGreaterThanQuestionCode o cs (at + width_of c))) (arrow_code rd EqualsGreaterThanCode o (c ∷ cs) at))

unfoldable pub equals : Reading → ℕ → List ℕ → ℕ → Call
equals rd o cs at = if_next '= cs (plain EqualsEquals o (at + 1) 1) (if_next '> cs (more 1 (right_arrow rd o (drop 1 cs) (at + 1))) (plain Equals o at 0))
