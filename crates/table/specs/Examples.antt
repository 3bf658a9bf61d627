-- A small sheet's whole table, to the byte: two kinds, one error.
use Rattle.std.specs.Prelude.{ℕ, List, [], ◌∷◌, ◌≡◌, refl}
use Rattle.text.specs.Bytes.{bytes, join}
use Rattle.text.specs.Digits.{digits, digits_then, width, width_in}
use Rattle.text.specs.Names.{code_name, code_names, kind_name, kind_names}
use Rattle.sheet.specs.Adds.{empty_sheet, enter}
use Rattle.sheet.specs.Sheet.{within}
use Rattle.table.specs.Table.{absent_kind, advance_lines, all_occur, character_lines, each, error_line, errors, foot, is_shown, kind_line, line, plain_line, share, share_line, shown_lines, spaces, table_pieces, tenths, text_lines, token_lines, total}

unfoldable pub small : List ℕ
small = enter 74 1 (enter 60 12 (enter 59 11 (enter 58 15123 (enter 57 100 (enter 56 1000 (enter 55 3000 (enter 54 11000 (enter 48 1469 (enter 15 1234 empty_sheet)))))))))

pub small-table : join (table_pieces small 2) ≡ join (
    bytes "tokens                                    2703\n" ∷
    bytes "  Id                                      1234   45.7%\n" ∷
    bytes "  Semi                                    1469   54.3%\n" ∷
    bytes "characters                               15100\n" ∷
    bytes "  in tokens                              11000   72.8%\n" ∷
    bytes "  in whitespace                           3000   19.9%\n" ∷
    bytes "  in comments                             1000    6.6%\n" ∷
    bytes "  dropped after attributes                 100    0.7%\n" ∷
    bytes "advances                                 15123\n" ∷
    bytes "  of failed attempts                        23\n" ∷
    bytes "failed attempts                             11\n" ∷
    bytes "texts taken                                 12\n" ∷
    bytes "  UnterminatedBlockComment                   1\n" ∷
    bytes "texts refused                                2\n" ∷
    bytes "kinds that never occur: Enum Extern Grammar Match Else If Mut Pub In Type Where For Dyn Use Escape" ∷
    bytes " MacroId Lifetime StringLiteral CharLiteral RegexLiteral Ampersand BangEquals BangTilde Colon ColonColon Comma DotDot Equals EqualsEquals" ∷
    bytes " EqualsGreaterThanCode EqualsGreaterThanQuestionCode EqualsGreaterThanLookahead EqualsGreaterThanLookbehind Hash GreaterThan LeftBrace" ∷
    bytes " LeftBracket LeftParen LessThan Lookahead Lookbehind MinusGreaterThan Plus Question RightBrace RightBracket RightParen Star TildeTilde" ∷
    bytes " Underscore Bang ShebangAttribute\n" ∷
    [])
unfolding absent_kind advance_lines all_occur bytes character_lines code_name code_names digits digits_then each empty_sheet enter error_line errors foot is_shown join kind_line kind_name kind_names line plain_line share share_line shown_lines small spaces table_pieces tenths text_lines token_lines total width width_in within
small-table = refl
