-- The names of the kinds and of the refusals, by their numbers: as 01 and the Rust have them.
use Rattle.std.specs.Prelude.{ℕ, Bool, true, false, cond, ◌&&◌, ◌||◌, List, [], ◌∷◌, ◌≡◌, refl, eqb, get_or}
use Rattle.record.specs.Numbers.{code_number, kind_number}
use Rattle.record.specs.declared.Code.{Code}
use Rattle.record.specs.declared.Code.TheVariants.{UnrecognizedToken, UnterminatedEscape, UnterminatedAsciiEscape, UnrecognizedEscape, UnterminatedStringLiteral, UnterminatedCharacterLiteral, UnterminatedAttribute, UnterminatedCode, ExpectedStringLiteral, UnterminatedBlockComment, NotUtf8, TooLong, ShiftTooLarge, NoRoom, WorkLimit, TrailingBackslash, BadMark, UnknownVersion, BadLength, BadRecord, SheetFull, HalfSymbol, StrayCharacter, UnknownReading, TooDeep, TextMismatch, ChangeListFull, BadEdit, StaleRecords}
use Rattle.record.specs.declared.Kind.{Kind}
use Rattle.record.specs.declared.Kind.TheVariants.{Enum, Extern, Grammar, Match, Else, If, Mut, Pub, In, «Type», Where, For, Dyn, Use, Escape, Id, MacroId, Lifetime, StringLiteral, CharLiteral, RegexLiteral, Ampersand, BangEquals, BangTilde, Colon, ColonColon, Comma, DotDot, Equals, EqualsEquals, EqualsGreaterThanCode, EqualsGreaterThanQuestionCode, EqualsGreaterThanLookahead, EqualsGreaterThanLookbehind, Hash, GreaterThan, LeftBrace, LeftBracket, LeftParen, LessThan, Lookahead, Lookbehind, MinusGreaterThan, Plus, Question, RightBrace, RightBracket, RightParen, Semi, Star, TildeTilde, Underscore, Bang, ShebangAttribute}
use Rattle.text.specs.Bytes.{bytes}

-- the kinds' names, from number 0 on
unfoldable pub kind_names : List (List ℕ)
kind_names =
    bytes "Enum" ∷ bytes "Extern" ∷ bytes "Grammar" ∷ bytes "Match" ∷ bytes "Else" ∷ bytes "If" ∷ bytes "Mut" ∷
    bytes "Pub" ∷ bytes "In" ∷ bytes "Type" ∷ bytes "Where" ∷ bytes "For" ∷ bytes "Dyn" ∷ bytes "Use" ∷
    bytes "Escape" ∷ bytes "Id" ∷ bytes "MacroId" ∷ bytes "Lifetime" ∷ bytes "StringLiteral" ∷ bytes "CharLiteral" ∷
    bytes "RegexLiteral" ∷ bytes "Ampersand" ∷ bytes "BangEquals" ∷ bytes "BangTilde" ∷ bytes "Colon" ∷
    bytes "ColonColon" ∷ bytes "Comma" ∷ bytes "DotDot" ∷ bytes "Equals" ∷ bytes "EqualsEquals" ∷
    bytes "EqualsGreaterThanCode" ∷ bytes "EqualsGreaterThanQuestionCode" ∷ bytes "EqualsGreaterThanLookahead" ∷
    bytes "EqualsGreaterThanLookbehind" ∷ bytes "Hash" ∷ bytes "GreaterThan" ∷ bytes "LeftBrace" ∷
    bytes "LeftBracket" ∷ bytes "LeftParen" ∷ bytes "LessThan" ∷ bytes "Lookahead" ∷ bytes "Lookbehind" ∷
    bytes "MinusGreaterThan" ∷ bytes "Plus" ∷ bytes "Question" ∷ bytes "RightBrace" ∷ bytes "RightBracket" ∷
    bytes "RightParen" ∷ bytes "Semi" ∷ bytes "Star" ∷ bytes "TildeTilde" ∷ bytes "Underscore" ∷ bytes "Bang" ∷
    bytes "ShebangAttribute" ∷ []

-- the refusals' names, from number 1 on; number 0 is none's
unfoldable pub code_names : List (List ℕ)
code_names =
    [] ∷ bytes "UnrecognizedToken" ∷ bytes "UnterminatedEscape" ∷ bytes "UnterminatedAsciiEscape" ∷
    bytes "UnrecognizedEscape" ∷ bytes "UnterminatedStringLiteral" ∷ bytes "UnterminatedCharacterLiteral" ∷
    bytes "UnterminatedAttribute" ∷ bytes "UnterminatedCode" ∷ bytes "ExpectedStringLiteral" ∷
    bytes "UnterminatedBlockComment" ∷ bytes "NotUtf8" ∷ bytes "TooLong" ∷ bytes "ShiftTooLarge" ∷ bytes "NoRoom" ∷
    bytes "WorkLimit" ∷ bytes "TrailingBackslash" ∷ bytes "BadMark" ∷ bytes "UnknownVersion" ∷ bytes "BadLength" ∷
    bytes "BadRecord" ∷ bytes "SheetFull" ∷ bytes "HalfSymbol" ∷ bytes "StrayCharacter" ∷ bytes "UnknownReading" ∷
    bytes "TooDeep" ∷ bytes "TextMismatch" ∷ bytes "ChangeListFull" ∷ bytes "BadEdit" ∷ bytes "StaleRecords" ∷ []

-- a number that none has is given no name
unfoldable pub kind_name : ℕ → List ℕ
kind_name n = get_or kind_names n []

unfoldable pub code_name : ℕ → List ℕ
code_name n = get_or code_names n []

-- ---- two numbers cannot be exchanged: each kind and each refusal of the declared types with its literal number and its name
unfoldable pub same : List ℕ → List ℕ → Bool
same [] [] = true
same (a ∷ l) (b ∷ m) = eqb a b && same l m
same [] (b ∷ m) = false
same (a ∷ l) [] = false

unfoldable pub kinds_right : List (Kind × ℕ × List ℕ) → Bool
kinds_right [] = true
kinds_right (e ∷ es) = (eqb (kind_number e.0) e.1 && same (kind_name e.1) e.2) && kinds_right es

unfoldable pub codes_right : List (Code × ℕ × List ℕ) → Bool
codes_right [] = true
codes_right (e ∷ es) = (eqb (code_number e.0) e.1 && same (code_name e.1) e.2) && codes_right es

unfoldable pub kind_table : List (Kind × ℕ × List ℕ)
kind_table =
    (Enum, 0, bytes "Enum") ∷ (Extern, 1, bytes "Extern") ∷ (Grammar, 2, bytes "Grammar") ∷ (Match, 3, bytes "Match") ∷
    (Else, 4, bytes "Else") ∷ (If, 5, bytes "If") ∷ (Mut, 6, bytes "Mut") ∷ (Pub, 7, bytes "Pub") ∷
    (In, 8, bytes "In") ∷ («Type», 9, bytes "Type") ∷ (Where, 10, bytes "Where") ∷ (For, 11, bytes "For") ∷
    (Dyn, 12, bytes "Dyn") ∷ (Use, 13, bytes "Use") ∷ (Escape, 14, bytes "Escape") ∷ (Id, 15, bytes "Id") ∷
    (MacroId, 16, bytes "MacroId") ∷ (Lifetime, 17, bytes "Lifetime") ∷ (StringLiteral, 18, bytes "StringLiteral") ∷
    (CharLiteral, 19, bytes "CharLiteral") ∷ (RegexLiteral, 20, bytes "RegexLiteral") ∷
    (Ampersand, 21, bytes "Ampersand") ∷ (BangEquals, 22, bytes "BangEquals") ∷ (BangTilde, 23, bytes "BangTilde") ∷
    (Colon, 24, bytes "Colon") ∷ (ColonColon, 25, bytes "ColonColon") ∷ (Comma, 26, bytes "Comma") ∷
    (DotDot, 27, bytes "DotDot") ∷ (Equals, 28, bytes "Equals") ∷ (EqualsEquals, 29, bytes "EqualsEquals") ∷
    (EqualsGreaterThanCode, 30, bytes "EqualsGreaterThanCode") ∷
    (EqualsGreaterThanQuestionCode, 31, bytes "EqualsGreaterThanQuestionCode") ∷
    (EqualsGreaterThanLookahead, 32, bytes "EqualsGreaterThanLookahead") ∷
    (EqualsGreaterThanLookbehind, 33, bytes "EqualsGreaterThanLookbehind") ∷ (Hash, 34, bytes "Hash") ∷
    (GreaterThan, 35, bytes "GreaterThan") ∷ (LeftBrace, 36, bytes "LeftBrace") ∷
    (LeftBracket, 37, bytes "LeftBracket") ∷ (LeftParen, 38, bytes "LeftParen") ∷ (LessThan, 39, bytes "LessThan") ∷
    (Lookahead, 40, bytes "Lookahead") ∷ (Lookbehind, 41, bytes "Lookbehind") ∷
    (MinusGreaterThan, 42, bytes "MinusGreaterThan") ∷ (Plus, 43, bytes "Plus") ∷ (Question, 44, bytes "Question") ∷
    (RightBrace, 45, bytes "RightBrace") ∷ (RightBracket, 46, bytes "RightBracket") ∷
    (RightParen, 47, bytes "RightParen") ∷ (Semi, 48, bytes "Semi") ∷ (Star, 49, bytes "Star") ∷
    (TildeTilde, 50, bytes "TildeTilde") ∷ (Underscore, 51, bytes "Underscore") ∷ (Bang, 52, bytes "Bang") ∷
    (ShebangAttribute, 53, bytes "ShebangAttribute") ∷ []

unfoldable pub code_table : List (Code × ℕ × List ℕ)
code_table =
    (UnrecognizedToken, 1, bytes "UnrecognizedToken") ∷ (UnterminatedEscape, 2, bytes "UnterminatedEscape") ∷
    (UnterminatedAsciiEscape, 3, bytes "UnterminatedAsciiEscape") ∷
    (UnrecognizedEscape, 4, bytes "UnrecognizedEscape") ∷
    (UnterminatedStringLiteral, 5, bytes "UnterminatedStringLiteral") ∷
    (UnterminatedCharacterLiteral, 6, bytes "UnterminatedCharacterLiteral") ∷
    (UnterminatedAttribute, 7, bytes "UnterminatedAttribute") ∷ (UnterminatedCode, 8, bytes "UnterminatedCode") ∷
    (ExpectedStringLiteral, 9, bytes "ExpectedStringLiteral") ∷
    (UnterminatedBlockComment, 10, bytes "UnterminatedBlockComment") ∷ (NotUtf8, 11, bytes "NotUtf8") ∷
    (TooLong, 12, bytes "TooLong") ∷ (ShiftTooLarge, 13, bytes "ShiftTooLarge") ∷ (NoRoom, 14, bytes "NoRoom") ∷
    (WorkLimit, 15, bytes "WorkLimit") ∷ (TrailingBackslash, 16, bytes "TrailingBackslash") ∷
    (BadMark, 17, bytes "BadMark") ∷ (UnknownVersion, 18, bytes "UnknownVersion") ∷
    (BadLength, 19, bytes "BadLength") ∷ (BadRecord, 20, bytes "BadRecord") ∷ (SheetFull, 21, bytes "SheetFull") ∷
    (HalfSymbol, 22, bytes "HalfSymbol") ∷ (StrayCharacter, 23, bytes "StrayCharacter") ∷
    (UnknownReading, 24, bytes "UnknownReading") ∷ (TooDeep, 25, bytes "TooDeep") ∷
    (TextMismatch, 26, bytes "TextMismatch") ∷ (ChangeListFull, 27, bytes "ChangeListFull") ∷
    (BadEdit, 28, bytes "BadEdit") ∷ (StaleRecords, 29, bytes "StaleRecords") ∷ []

-- THE CLAIM, of both tables
pub numbers_and_names : kinds_right kind_table && codes_right code_table ≡ true
unfolding bytes code_name code_names code_table codes_right kind_name kind_names kind_table kinds_right same
numbers_and_names = refl

-- ---- all names differ
unfoldable pub is_among : List ℕ → List (List ℕ) → Bool
is_among l [] = false
is_among l (m ∷ ms) = same l m || is_among l ms

unfoldable pub differ : List (List ℕ) → Bool
differ [] = true
differ (l ∷ ls) = cond (is_among l ls) false (differ ls)

pub names_differ : differ kind_names && differ code_names ≡ true
unfolding bytes code_names differ is_among kind_names same
names_differ = refl
