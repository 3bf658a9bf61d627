-- 01: "Kinds number 0 to 53 in the order of the `Tok` enum, the dummies absent"; refusals number 1 to 20 as in its table,
-- and 21 to 29 as in document 02's.
use Rattle.std.specs.Prelude.{◌≡◌, refl, cond, List, [], ◌∷◌, ℕ, ◌-◌, ltb, get_or, Option, Some, None}
use Rattle.record.specs.declared.Kind.{Kind}
use Rattle.record.specs.declared.Kind.TheVariants.{Enum, Extern, Grammar, Match, Else, If, Mut, Pub, In, «Type», Where, For, Dyn, Use, Escape, Id, MacroId, Lifetime, StringLiteral, CharLiteral, RegexLiteral, Ampersand, BangEquals, BangTilde, Colon, ColonColon, Comma, DotDot, Equals, EqualsEquals, EqualsGreaterThanCode, EqualsGreaterThanQuestionCode, EqualsGreaterThanLookahead, EqualsGreaterThanLookbehind, Hash, GreaterThan, LeftBrace, LeftBracket, LeftParen, LessThan, Lookahead, Lookbehind, MinusGreaterThan, Plus, Question, RightBrace, RightBracket, RightParen, Semi, Star, TildeTilde, Underscore, Bang, ShebangAttribute}
use Rattle.record.specs.declared.Code.{Code}
use Rattle.record.specs.declared.Code.TheVariants.{UnrecognizedToken, UnterminatedEscape, UnterminatedAsciiEscape, UnrecognizedEscape, UnterminatedStringLiteral, UnterminatedCharacterLiteral, UnterminatedAttribute, UnterminatedCode, ExpectedStringLiteral, UnterminatedBlockComment, NotUtf8, TooLong, ShiftTooLarge, NoRoom, WorkLimit, TrailingBackslash, BadMark, UnknownVersion, BadLength, BadRecord, SheetFull, HalfSymbol, StrayCharacter, UnknownReading, TooDeep, TextMismatch, ChangeListFull, BadEdit, StaleRecords}

abbrev pub kind_number : Kind → ℕ
kind_number Enum = 0
kind_number Extern = 1
kind_number Grammar = 2
kind_number Match = 3
kind_number Else = 4
kind_number If = 5
kind_number Mut = 6
kind_number Pub = 7
kind_number In = 8
kind_number «Type» = 9
kind_number Where = 10
kind_number For = 11
kind_number Dyn = 12
kind_number Use = 13
kind_number Escape = 14
kind_number Id = 15
kind_number MacroId = 16
kind_number Lifetime = 17
kind_number StringLiteral = 18
kind_number CharLiteral = 19
kind_number RegexLiteral = 20
kind_number Ampersand = 21
kind_number BangEquals = 22
kind_number BangTilde = 23
kind_number Colon = 24
kind_number ColonColon = 25
kind_number Comma = 26
kind_number DotDot = 27
kind_number Equals = 28
kind_number EqualsEquals = 29
kind_number EqualsGreaterThanCode = 30
kind_number EqualsGreaterThanQuestionCode = 31
kind_number EqualsGreaterThanLookahead = 32
kind_number EqualsGreaterThanLookbehind = 33
kind_number Hash = 34
kind_number GreaterThan = 35
kind_number LeftBrace = 36
kind_number LeftBracket = 37
kind_number LeftParen = 38
kind_number LessThan = 39
kind_number Lookahead = 40
kind_number Lookbehind = 41
kind_number MinusGreaterThan = 42
kind_number Plus = 43
kind_number Question = 44
kind_number RightBrace = 45
kind_number RightBracket = 46
kind_number RightParen = 47
kind_number Semi = 48
kind_number Star = 49
kind_number TildeTilde = 50
kind_number Underscore = 51
kind_number Bang = 52
kind_number ShebangAttribute = 53

abbrev pub code_number : Code → ℕ
code_number UnrecognizedToken = 1
code_number UnterminatedEscape = 2
code_number UnterminatedAsciiEscape = 3
code_number UnrecognizedEscape = 4
code_number UnterminatedStringLiteral = 5
code_number UnterminatedCharacterLiteral = 6
code_number UnterminatedAttribute = 7
code_number UnterminatedCode = 8
code_number ExpectedStringLiteral = 9
code_number UnterminatedBlockComment = 10
code_number NotUtf8 = 11
code_number TooLong = 12
code_number ShiftTooLarge = 13
code_number NoRoom = 14
code_number WorkLimit = 15
code_number TrailingBackslash = 16
code_number BadMark = 17
code_number UnknownVersion = 18
code_number BadLength = 19
code_number BadRecord = 20
code_number SheetFull = 21
code_number HalfSymbol = 22
code_number StrayCharacter = 23
code_number UnknownReading = 24
code_number TooDeep = 25
code_number TextMismatch = 26
code_number ChangeListFull = 27
code_number BadEdit = 28
code_number StaleRecords = 29

-- the kinds, and the refusals, in the order of their numbers
unfoldable pub kinds : List Kind
kinds =
    Enum ∷ Extern ∷ Grammar ∷ Match ∷ Else ∷ If ∷ Mut ∷ Pub ∷ In ∷ «Type» ∷ Where ∷ For ∷ Dyn ∷ Use ∷ Escape ∷ Id ∷ MacroId ∷
    Lifetime ∷ StringLiteral ∷ CharLiteral ∷ RegexLiteral ∷ Ampersand ∷ BangEquals ∷ BangTilde ∷ Colon ∷ ColonColon ∷ Comma ∷
    DotDot ∷ Equals ∷ EqualsEquals ∷ EqualsGreaterThanCode ∷ EqualsGreaterThanQuestionCode ∷ EqualsGreaterThanLookahead ∷
    EqualsGreaterThanLookbehind ∷ Hash ∷ GreaterThan ∷ LeftBrace ∷ LeftBracket ∷ LeftParen ∷ LessThan ∷ Lookahead ∷ Lookbehind ∷
    MinusGreaterThan ∷ Plus ∷ Question ∷ RightBrace ∷ RightBracket ∷ RightParen ∷ Semi ∷ Star ∷ TildeTilde ∷ Underscore ∷ Bang ∷
    ShebangAttribute ∷ []

unfoldable pub codes : List Code
codes =
    UnrecognizedToken ∷ UnterminatedEscape ∷ UnterminatedAsciiEscape ∷ UnrecognizedEscape ∷ UnterminatedStringLiteral ∷
    UnterminatedCharacterLiteral ∷ UnterminatedAttribute ∷ UnterminatedCode ∷ ExpectedStringLiteral ∷ UnterminatedBlockComment ∷
    NotUtf8 ∷ TooLong ∷ ShiftTooLarge ∷ NoRoom ∷ WorkLimit ∷ TrailingBackslash ∷ BadMark ∷ UnknownVersion ∷ BadLength ∷
    BadRecord ∷ SheetFull ∷ HalfSymbol ∷ StrayCharacter ∷ UnknownReading ∷ TooDeep ∷ TextMismatch ∷
    ChangeListFull ∷ BadEdit ∷ StaleRecords ∷ []

-- the kind that has a number
unfoldable pub kind_of : ℕ → Option Kind
kind_of n = cond (ltb n 54) (Some (get_or kinds n Enum)) None

-- the refusal that has a number, and the last one for every other number
unfoldable pub code_of : ℕ → Code
code_of n = get_or codes (n - 1) BadRecord

-- each kind is the one that its number names: so no two kinds have one number
pub kind_again : (k : Kind) → kind_of (kind_number k) ≡ Some k
unfolding kind_of kinds
kind_again Enum = refl
kind_again Extern = refl
kind_again Grammar = refl
kind_again Match = refl
kind_again Else = refl
kind_again If = refl
kind_again Mut = refl
kind_again Pub = refl
kind_again In = refl
kind_again «Type» = refl
kind_again Where = refl
kind_again For = refl
kind_again Dyn = refl
kind_again Use = refl
kind_again Escape = refl
kind_again Id = refl
kind_again MacroId = refl
kind_again Lifetime = refl
kind_again StringLiteral = refl
kind_again CharLiteral = refl
kind_again RegexLiteral = refl
kind_again Ampersand = refl
kind_again BangEquals = refl
kind_again BangTilde = refl
kind_again Colon = refl
kind_again ColonColon = refl
kind_again Comma = refl
kind_again DotDot = refl
kind_again Equals = refl
kind_again EqualsEquals = refl
kind_again EqualsGreaterThanCode = refl
kind_again EqualsGreaterThanQuestionCode = refl
kind_again EqualsGreaterThanLookahead = refl
kind_again EqualsGreaterThanLookbehind = refl
kind_again Hash = refl
kind_again GreaterThan = refl
kind_again LeftBrace = refl
kind_again LeftBracket = refl
kind_again LeftParen = refl
kind_again LessThan = refl
kind_again Lookahead = refl
kind_again Lookbehind = refl
kind_again MinusGreaterThan = refl
kind_again Plus = refl
kind_again Question = refl
kind_again RightBrace = refl
kind_again RightBracket = refl
kind_again RightParen = refl
kind_again Semi = refl
kind_again Star = refl
kind_again TildeTilde = refl
kind_again Underscore = refl
kind_again Bang = refl
kind_again ShebangAttribute = refl

-- and each refusal
pub code_again : (c : Code) → code_of (code_number c) ≡ c
unfolding code_of codes
code_again UnrecognizedToken = refl
code_again UnterminatedEscape = refl
code_again UnterminatedAsciiEscape = refl
code_again UnrecognizedEscape = refl
code_again UnterminatedStringLiteral = refl
code_again UnterminatedCharacterLiteral = refl
code_again UnterminatedAttribute = refl
code_again UnterminatedCode = refl
code_again ExpectedStringLiteral = refl
code_again UnterminatedBlockComment = refl
code_again NotUtf8 = refl
code_again TooLong = refl
code_again ShiftTooLarge = refl
code_again NoRoom = refl
code_again WorkLimit = refl
code_again TrailingBackslash = refl
code_again BadMark = refl
code_again UnknownVersion = refl
code_again BadLength = refl
code_again BadRecord = refl
code_again SheetFull = refl
code_again HalfSymbol = refl
code_again StrayCharacter = refl
code_again UnknownReading = refl
code_again TooDeep = refl
code_again TextMismatch = refl
code_again ChangeListFull = refl
code_again BadEdit = refl
code_again StaleRecords = refl
