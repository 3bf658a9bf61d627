-- The marked examples: one table, and one claim of the reading, one of what `run::run` answers, with the checks before it.
use Rattle.std.specs.Prelude.{ℕ, List, [], ◌∷◌, ◌≡◌, refl}
use Rattle.utf8.specs.Chars.{'!, '#, '*, '/, '1, '<, '=, '>, '?, '[, '], 'a, 'b, 'c, 'dot, 'dquote, 'i, 'n, 'newline, 'quote, 'r, 'semi, 'underscore, 'x}
use Rattle.utf8.specs.Utf8.{chars, chars_from, high, lead, low, reach, sight, width_of}
use Rattle.unicode_xid.specs.Ranges.{holds, in_ranges}
use Rattle.unicode_xid.specs.Tables.{continue_ranges, start_ranges}
use Rattle.record.specs.Checks.{checks}
use Rattle.record.specs.Records.{refusal, token_of}
use Rattle.record.specs.declared.Code.{Code}
use Rattle.record.specs.declared.Code.TheVariants.{ExpectedStringLiteral, HalfSymbol, NoRoom, UnterminatedBlockComment, UnterminatedCharacterLiteral, UnterminatedStringLiteral, WorkLimit}
use Rattle.record.specs.declared.Kind.{Kind}
use Rattle.record.specs.declared.Kind.TheVariants.{Bang, CharLiteral, EqualsGreaterThanCode, EqualsGreaterThanQuestionCode, Hash, Id, In, LeftBracket, LessThan, MacroId, RegexLiteral, Semi, ShebangAttribute, Underscore}
use Rattle.record.specs.declared.Token.{Token}
use Rattle.scan.specs.Depth.{deepest, depth_from, slash_depth}
use Rattle.scan.specs.Far.{after}
use Rattle.scan.specs.IfNext.{if_next}
use Rattle.scan.specs.Until.{until}
use Rattle.scan.specs.Walk.{walk_from}
use Rattle.code.specs.Code.{body_skip, closes, code_turn, esc_skip, one_skip, opens, quote_end, quote_last, quote_skip, r_skip, slash_skip}
use Rattle.reading.specs.Answers.{deliver, more, plain, refuse, start_state, told, told_token}
use Rattle.reading.specs.Attribute.{attempt, attempt_body, attempt_bracket, attribute_token, attribute_turn, dropped, hash}
use Rattle.reading.specs.Gaps.{comment_turn, gap, gap_turn}
use Rattle.reading.specs.Next.{next, starts, token, token_or_end}
use Rattle.reading.specs.Quotes.{char_literal, escape, lifetimeish, string_literal}
use Rattle.reading.specs.Regex.{hashed, r_word, regex_literal, regex_token}
use Rattle.reading.specs.Run.{Run, run, run_from_with, run_with, step_with}
use Rattle.reading.specs.Symbols.{arrow_code, arrow_look, bang, colon, dot, equals, half, look, minus, right_arrow, single, singles, stray, tilde}
use Rattle.reading.specs.Words.{id_token, identifierish, keyword_token, keywords, spells, use_token, word_token}
use Rattle.reading.specs.declared.Outcome.{Outcome}
use Rattle.reading.specs.declared.Outcome.TheVariants.{Ended, Refused}
use Rattle.run.specs.Checked.{ran_of, ran_with, whole_run, whole_run_with}

pub record Row : Type 0 where
  pub tokens : List Token
  pub how : Outcome
  pub advances : ℕ

abbrev row : List Token → Outcome → ℕ → Row
row ts how n = record { tokens = ts; how = how; advances = n }

abbrev row_of : Run → Row
row_of r = row r.tokens r.how r.state.count

-- a text with shift 0, and limits that suffice
abbrev read : List ℕ → Row
read s = row_of (run s 0 1000 1000 start_state)

-- a token with a payload, before which and in which no comment stands (02, E4: both depths are 0)
abbrev clear : Kind → ℕ → ℕ → ℕ → ℕ → Token
clear k o e from to = told_token 0 0 (token_of k o e from to)

-- a token without a payload
abbrev bare : Kind → ℕ → ℕ → Token
bare k o e = clear k o e o o

abbrev at : Code → ℕ → Outcome
at c p = Refused (refusal c p)

unfoldable pub read_all : List (List ℕ × Row) → List Row
read_all [] = []
read_all (r ∷ rs) = read r.0 ∷ read_all rs

unfoldable pub expected : List (List ℕ × Row) → List Row
expected [] = []
expected (r ∷ rs) = r.1 ∷ expected rs

unfoldable pub marked : List (List ℕ × Row)
marked =
    -- empty
    ([], row [] Ended 0)
    -- ##
    ∷ ('# ∷ '# ∷ [], row (bare Hash 0 1 ∷ bare Hash 1 2 ∷ []) Ended 3)
    -- #![ newline x
    ∷ ('# ∷ '! ∷ '[ ∷ 'newline ∷ 'x ∷ [], row (bare Hash 0 1 ∷ bare Bang 1 2 ∷ bare LeftBracket 2 3 ∷ clear Id 4 5 4 5 ∷ []) Ended 7)
    -- r#_
    ∷ ('r ∷ '# ∷ 'underscore ∷ [], row (bare Underscore 0 3 ∷ []) Ended 3)
    -- r##ab<
    ∷ ('r ∷ '# ∷ '# ∷ 'a ∷ 'b ∷ '< ∷ [], row (clear MacroId 0 5 0 5 ∷ bare LessThan 5 6 ∷ []) Ended 6)
    -- r#1
    ∷ ('r ∷ '# ∷ '1 ∷ [], row [] (at ExpectedStringLiteral 2) 2)
    -- r#"a"b"#
    ∷ ('r ∷ '# ∷ 'dquote ∷ 'a ∷ 'dquote ∷ 'b ∷ 'dquote ∷ '# ∷ [], row (clear RegexLiteral 0 8 3 6 ∷ []) Ended 8)
    -- =>r#"a"b"#;
    ∷ ('= ∷ '> ∷ 'r ∷ '# ∷ 'dquote ∷ 'a ∷ 'dquote ∷ 'b ∷ 'dquote ∷ '# ∷ 'semi ∷ [], row [] (at UnterminatedStringLiteral 8) 11)
    -- =>'a'
    ∷ ('= ∷ '> ∷ 'quote ∷ 'a ∷ 'quote ∷ [], row [] (at UnterminatedCharacterLiteral 2) 5)
    -- =>'a';
    ∷ ('= ∷ '> ∷ 'quote ∷ 'a ∷ 'quote ∷ 'semi ∷ [], row (clear EqualsGreaterThanCode 0 5 2 5 ∷ bare Semi 5 6 ∷ []) Ended 6)
    -- /*/
    ∷ ('/ ∷ '* ∷ '/ ∷ [], row [] (at UnterminatedBlockComment 0) 3)
    -- /*/**/*/
    ∷ ('/ ∷ '* ∷ '/ ∷ '* ∷ '* ∷ '/ ∷ '* ∷ '/ ∷ [], row [] Ended 8)
    -- =>?
    ∷ ('= ∷ '> ∷ '? ∷ [], row (clear EqualsGreaterThanQuestionCode 0 3 3 3 ∷ []) Ended 3)
    ∷ []

pub marked_examples : read_all marked ≡ expected marked
unfolding read_all expected marked run_with run_from_with step_with next gap gap_turn comment_turn token_or_end token starts single singles half stray bang colon dot look tilde minus arrow_look arrow_code right_arrow equals attribute_turn attempt_body attempt_bracket attempt dropped attribute_token hash regex_token hashed regex_literal r_word spells keywords use_token id_token keyword_token word_token identifierish escape string_literal char_literal lifetimeish slash_skip quote_last quote_end one_skip esc_skip quote_skip body_skip r_skip opens closes code_turn walk_from deliver plain refuse more told depth_from slash_depth deepest if_next until after chars chars_from sight lead low high width_of start_ranges continue_ranges holds in_ranges
marked_examples = refl

-- what `run::run` stores and answers, with the three checks and the boundary before the reading
abbrev ran : List ℕ → Row
ran s = row (whole_run s 0 1000 1000 start_state).tokens (ran_of s 0 1000 1000 start_state).how (ran_of s 0 1000 1000 start_state).advances

unfoldable pub ran_all : List (List ℕ × Row) → List Row
ran_all [] = []
ran_all (r ∷ rs) = ran r.0 ∷ ran_all rs

pub marked-runs : ran_all marked ≡ expected marked
unfolding ran_all expected marked ran_with whole_run_with checks reach run_with run_from_with step_with next gap gap_turn comment_turn token_or_end token starts single singles half stray bang colon dot look tilde minus arrow_look arrow_code right_arrow equals attribute_turn attempt_body attempt_bracket attempt dropped attribute_token hash regex_token hashed regex_literal r_word spells keywords use_token id_token keyword_token word_token identifierish escape string_literal char_literal lifetimeish slash_skip quote_last quote_end one_skip esc_skip quote_skip body_skip r_skip opens closes code_turn walk_from deliver plain refuse more told depth_from slash_depth deepest if_next until after chars chars_from sight lead low high width_of start_ranges continue_ranges holds in_ranges
marked-runs = refl

-- more of the paper's examples, with shift, work limit and room
abbrev read_with : ℕ × ℕ × ℕ → List ℕ → Row
read_with n s = row_of (run s n.0 n.1 n.2 start_state)

unfoldable pub read_all_with : List ((ℕ × ℕ × ℕ) × List ℕ × Row) → List Row
read_all_with [] = []
read_all_with (r ∷ rs) = read_with r.0 r.1 ∷ read_all_with rs

unfoldable pub expected_with : List ((ℕ × ℕ × ℕ) × List ℕ × Row) → List Row
expected_with [] = []
expected_with (r ∷ rs) = r.2 ∷ expected_with rs

unfoldable pub further : List ((ℕ × ℕ × ℕ) × List ℕ × Row)
further =
    -- two quotes
    ((0, 99, 99), 'quote ∷ 'quote ∷ [], row (clear CharLiteral 0 2 1 1 ∷ []) Ended 2)
    -- a dot, with shift 7 (02, E3: half a symbol, 22 and no longer 1)
    ∷ ((7, 99, 99), 'dot ∷ [], row [] (at HalfSymbol 7) 1)
    -- the listing: #![a]xb=>c;
    ∷ (
      (0, 99, 99),
      '# ∷ '! ∷ '[ ∷ 'a ∷ '] ∷ 'x ∷ 'b ∷ '= ∷ '> ∷ 'c ∷ 'semi ∷ [],
      row (clear ShebangAttribute 0 5 0 5 ∷ clear Id 6 7 6 7 ∷ clear EqualsGreaterThanCode 7 10 9 10 ∷ bare Semi 10 11 ∷ []) Ended 11,
    )
    -- a keyword before < stays a keyword; a hashed word is none
    ∷ ((0, 99, 99), 'i ∷ 'n ∷ '< ∷ [], row (bare In 0 2 ∷ bare LessThan 2 3 ∷ []) Ended 3)
    ∷ ((0, 99, 99), 'r ∷ '# ∷ 'i ∷ 'n ∷ [], row (clear Id 0 4 0 4 ∷ []) Ended 4)
    -- ## : the first call takes 2 advances, the second 1, the end none
    ∷ ((5, 1, 99), '# ∷ '# ∷ [], row [] (at WorkLimit 5) 0)
    ∷ ((5, 2, 99), '# ∷ '# ∷ [], row (bare Hash 5 6 ∷ []) (at WorkLimit 6) 2)
    ∷ ((5, 3, 99), '# ∷ '# ∷ [], row (bare Hash 5 6 ∷ bare Hash 6 7 ∷ []) Ended 3)
    ∷ ((5, 3, 2), '# ∷ '# ∷ [], row (bare Hash 5 6 ∷ bare Hash 6 7 ∷ []) Ended 3)
    ∷ ((5, 3, 1), '# ∷ '# ∷ [], row (bare Hash 5 6 ∷ []) (at NoRoom 6) 2)
    ∷ ((5, 1, 0), '# ∷ '# ∷ [], row [] (at WorkLimit 5) 0)
    ∷ []

pub further_examples : read_all_with further ≡ expected_with further
unfolding read_all_with expected_with further run_with run_from_with step_with next gap gap_turn comment_turn token_or_end token starts single singles half stray bang colon dot look tilde minus arrow_look arrow_code right_arrow equals attribute_turn attempt_body attempt_bracket attempt dropped attribute_token hash regex_token hashed regex_literal r_word spells keywords use_token id_token keyword_token word_token identifierish escape string_literal char_literal lifetimeish slash_skip quote_last quote_end one_skip esc_skip quote_skip body_skip r_skip opens closes code_turn walk_from deliver plain refuse more told depth_from slash_depth deepest if_next until after chars chars_from sight lead low high width_of start_ranges continue_ranges holds in_ranges
further_examples = refl
