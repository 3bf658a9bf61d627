-- TEXTS WITH BOTH ANSWERS, by computation: each with its shift, the old reading's answer and the kept one's. An answer is the records, five numbers each (kind, start, end, payload start,
-- payload end), then the refusal's code and place, 0 and 0 for the end, and the advances. All rows were written from 01 and 02's E5 by hand, before any was computed.
use Rattle.std.specs.Prelude.{suc, ℕ, Bool, false, true, List, [], ◌++◌, ◌∷◌, ◌≡◌, refl, length}
use Rattle.utf8.specs.Chars.{'!, '#, '/, '1, '=, '>, '[, '], 'a, 'b, 'backslash, 'c, 'dot, 'dquote, 'e, 'n, 'paren, 'quote, 'r, 's, 'semi, 'u, 'x}
use Rattle.utf8.specs.Utf8.{chars, chars_from, high, lead, low, reach, sight, width_of}
use Rattle.unicode_xid.specs.Ranges.{holds, in_ranges}
use Rattle.unicode_xid.specs.Tables.{continue_ranges, start_ranges}
use Rattle.record.specs.Checks.{checks}
use Rattle.record.specs.Numbers.{code_number}
use Rattle.record.specs.declared.Reading.{Reading}
use Rattle.record.specs.declared.Reading.TheVariants.{Kept, Old}
use Rattle.scan.specs.Depth.{deepest, depth_from, slash_depth}
use Rattle.scan.specs.Far.{after}
use Rattle.scan.specs.IfNext.{if_next}
use Rattle.scan.specs.Until.{until}
use Rattle.scan.specs.Walk.{walk_from}
use Rattle.code.specs.Code.{body_skip, closes, code_turn, esc_skip, one_skip, opens, quote_end, quote_last, quote_skip, r_skip, slash_skip}
use Rattle.reading.specs.Answers.{deliver, more, plain, refuse, start_in, told}
use Rattle.reading.specs.Attribute.{attempt, attempt_body, attempt_bracket, attribute_token, attribute_turn, dropped, hash}
use Rattle.reading.specs.Gaps.{comment_turn, gap, gap_turn}
use Rattle.reading.specs.Next.{next, starts, token, token_or_end}
use Rattle.reading.specs.Quotes.{char_literal, escape, lifetimeish, string_literal}
use Rattle.reading.specs.Regex.{hashed, r_word, regex_literal, regex_token}
use Rattle.reading.specs.Run.{run_from_with, run_with, step_with}
use Rattle.reading.specs.Symbols.{arrow_code, arrow_look, bang, colon, dot, equals, half, look, minus, right_arrow, single, singles, stray, tilde}
use Rattle.reading.specs.Words.{id_token, identifierish, keyword_token, keywords, spells, use_token, word_token}
use Rattle.reading.specs.declared.Outcome.{Outcome}
use Rattle.reading.specs.declared.Outcome.TheVariants.{Ended, Refused, Running}
use Rattle.run.specs.Checked.{ran_of, ran_with, whole_run, whole_run_with}
use Rattle.run.specs.Numbers.{groups, numbers_all}
use Rattle.kept.specs.Places.{arrow_meets, calm, code_meets_from, differs, equals_meets, first_meets, meets, some, token_meets, word_meets}

pub record Row : Type 0 where
  pub shift : ℕ
  pub text : List ℕ
  pub old : List ℕ
  pub kept : List ℕ

abbrev row : ℕ → List ℕ → List ℕ → List ℕ → Row
row k s x y = record { shift = k; text = s; old = x; kept = y }

-- both readings answer the same
abbrev alike : List ℕ → List ℕ → Row
alike s x = row 0 s x x

unfoldable pub rows : List Row
rows =
    -- ---- after an attribute: #![a]xb=>c;
    row 0 ('# ∷ '! ∷ '[ ∷ 'a ∷ '] ∷ 'x ∷ 'b ∷ '= ∷ '> ∷ 'c ∷ 'semi ∷ [])
    (53 ∷ 0 ∷ 5 ∷ 0 ∷ 5 ∷ 15 ∷ 6 ∷ 7 ∷ 6 ∷ 7 ∷ 30 ∷ 7 ∷ 10 ∷ 9 ∷ 10 ∷ 48 ∷ 10 ∷ 11 ∷ 10 ∷ 10 ∷ 0 ∷ 0 ∷ 11 ∷ [])
    (53 ∷ 0 ∷ 5 ∷ 0 ∷ 5 ∷ 15 ∷ 5 ∷ 7 ∷ 5 ∷ 7 ∷ 30 ∷ 7 ∷ 10 ∷ 9 ∷ 10 ∷ 48 ∷ 10 ∷ 11 ∷ 10 ∷ 10 ∷ 0 ∷ 0 ∷ 11 ∷ [])
    -- #![a]//x : the old reading drops half of the comment's mark
    ∷ row 0 ('# ∷ '! ∷ '[ ∷ 'a ∷ '] ∷ '/ ∷ '/ ∷ 'x ∷ []) (53 ∷ 0 ∷ 5 ∷ 0 ∷ 5 ∷ 22 ∷ 6 ∷ 7 ∷ []) (53 ∷ 0 ∷ 5 ∷ 0 ∷ 5 ∷ 0 ∷ 0 ∷ 8 ∷ [])
    -- #![a]]
    ∷ row 0 ('# ∷ '! ∷ '[ ∷ 'a ∷ '] ∷ '] ∷ []) (53 ∷ 0 ∷ 5 ∷ 0 ∷ 5 ∷ 0 ∷ 0 ∷ 6 ∷ []) (53 ∷ 0 ∷ 5 ∷ 0 ∷ 5 ∷ 46 ∷ 5 ∷ 6 ∷ 5 ∷ 5 ∷ 0 ∷ 0 ∷ 6 ∷ [])
    -- #![a]" with shift 7: what the old reading dropped, the kept one refuses
    ∷ row 7 ('# ∷ '! ∷ '[ ∷ 'a ∷ '] ∷ 'dquote ∷ []) (53 ∷ 7 ∷ 12 ∷ 7 ∷ 12 ∷ 0 ∷ 0 ∷ 6 ∷ []) (53 ∷ 7 ∷ 12 ∷ 7 ∷ 12 ∷ 5 ∷ 12 ∷ 6 ∷ [])
    -- #![a] : nothing follows
    ∷ alike ('# ∷ '! ∷ '[ ∷ 'a ∷ '] ∷ []) (53 ∷ 0 ∷ 5 ∷ 0 ∷ 5 ∷ 0 ∷ 0 ∷ 5 ∷ [])
    -- ---- a regex in code: =>r#"a"b"#;
    ∷ row 0 ('= ∷ '> ∷ 'r ∷ '# ∷ 'dquote ∷ 'a ∷ 'dquote ∷ 'b ∷ 'dquote ∷ '# ∷ 'semi ∷ []) (5 ∷ 8 ∷ 11 ∷ [])
    (30 ∷ 0 ∷ 10 ∷ 2 ∷ 10 ∷ 48 ∷ 10 ∷ 11 ∷ 10 ∷ 10 ∷ 0 ∷ 0 ∷ 11 ∷ [])
    -- =>r#"a";
    ∷ row 0 ('= ∷ '> ∷ 'r ∷ '# ∷ 'dquote ∷ 'a ∷ 'dquote ∷ 'semi ∷ []) (30 ∷ 0 ∷ 7 ∷ 2 ∷ 7 ∷ 48 ∷ 7 ∷ 8 ∷ 7 ∷ 7 ∷ 0 ∷ 0 ∷ 8 ∷ []) (5 ∷ 2 ∷ 8 ∷ [])
    -- =>r##"a"#;
    ∷ row 0 ('= ∷ '> ∷ 'r ∷ '# ∷ '# ∷ 'dquote ∷ 'a ∷ 'dquote ∷ '# ∷ 'semi ∷ []) (30 ∷ 0 ∷ 9 ∷ 2 ∷ 9 ∷ 48 ∷ 9 ∷ 10 ∷ 9 ∷ 9 ∷ 0 ∷ 0 ∷ 10 ∷ [])
    (5 ∷ 2 ∷ 10 ∷ [])
    -- =>r# , and with shift 7
    ∷ row 0 ('= ∷ '> ∷ 'r ∷ '# ∷ []) (5 ∷ 3 ∷ 4 ∷ []) (5 ∷ 2 ∷ 4 ∷ [])
    ∷ row 7 ('= ∷ '> ∷ 'r ∷ '# ∷ []) (5 ∷ 10 ∷ 4 ∷ []) (5 ∷ 9 ∷ 4 ∷ [])
    -- =>r#1 and =>r#a; : a 9 stays where it was, and a word is passed whole
    ∷ alike ('= ∷ '> ∷ 'r ∷ '# ∷ '1 ∷ []) (9 ∷ 4 ∷ 4 ∷ [])
    ∷ alike ('= ∷ '> ∷ 'r ∷ '# ∷ 'a ∷ 'semi ∷ []) (30 ∷ 0 ∷ 5 ∷ 2 ∷ 5 ∷ 48 ∷ 5 ∷ 6 ∷ 5 ∷ 5 ∷ 0 ∷ 0 ∷ 6 ∷ [])
    -- ---- a quote in code: =>'a'
    ∷ row 0 ('= ∷ '> ∷ 'quote ∷ 'a ∷ 'quote ∷ []) (6 ∷ 2 ∷ 5 ∷ []) (30 ∷ 0 ∷ 5 ∷ 2 ∷ 5 ∷ 0 ∷ 0 ∷ 5 ∷ [])
    -- =>'' and =>'''
    ∷ row 0 ('= ∷ '> ∷ 'quote ∷ 'quote ∷ []) (6 ∷ 2 ∷ 4 ∷ []) (30 ∷ 0 ∷ 4 ∷ 2 ∷ 4 ∷ 0 ∷ 0 ∷ 4 ∷ [])
    ∷ row 0 ('= ∷ '> ∷ 'quote ∷ 'quote ∷ 'quote ∷ []) (6 ∷ 2 ∷ 5 ∷ []) (30 ∷ 0 ∷ 5 ∷ 2 ∷ 5 ∷ 0 ∷ 0 ∷ 5 ∷ [])
    -- =>'a
    ∷ row 0 ('= ∷ '> ∷ 'quote ∷ 'a ∷ []) (6 ∷ 2 ∷ 4 ∷ []) (30 ∷ 0 ∷ 4 ∷ 2 ∷ 4 ∷ 0 ∷ 0 ∷ 4 ∷ [])
    -- =>('a : the bracket is still open
    ∷ row 0 ('= ∷ '> ∷ 'paren ∷ 'quote ∷ 'a ∷ []) (6 ∷ 3 ∷ 5 ∷ []) (8 ∷ 0 ∷ 5 ∷ [])
    -- =>'\n' : an escaped literal that is closed
    ∷ row 0 ('= ∷ '> ∷ 'quote ∷ 'backslash ∷ 'n ∷ 'quote ∷ []) (6 ∷ 2 ∷ 6 ∷ []) (30 ∷ 0 ∷ 6 ∷ 2 ∷ 6 ∷ 0 ∷ 0 ∷ 6 ∷ [])
    -- use'a : the code of `use`
    ∷ row 0 ('u ∷ 's ∷ 'e ∷ 'quote ∷ 'a ∷ []) (6 ∷ 3 ∷ 5 ∷ []) (13 ∷ 0 ∷ 5 ∷ 3 ∷ 5 ∷ 0 ∷ 0 ∷ 5 ∷ [])
    -- =>' and =>'\ and =>'\' : a lone last quote, and an unclosed escaped literal, are still 6
    ∷ alike ('= ∷ '> ∷ 'quote ∷ []) (6 ∷ 2 ∷ 3 ∷ [])
    ∷ alike ('= ∷ '> ∷ 'quote ∷ 'backslash ∷ []) (6 ∷ 2 ∷ 4 ∷ [])
    ∷ alike ('= ∷ '> ∷ 'quote ∷ 'backslash ∷ 'quote ∷ []) (6 ∷ 2 ∷ 5 ∷ [])
    -- =>'a';
    ∷ alike ('= ∷ '> ∷ 'quote ∷ 'a ∷ 'quote ∷ 'semi ∷ []) (30 ∷ 0 ∷ 5 ∷ 2 ∷ 5 ∷ 48 ∷ 5 ∷ 6 ∷ 5 ∷ 5 ∷ 0 ∷ 0 ∷ 6 ∷ [])
    -- .=>'a' : a run that is refused comes to none of the places
    ∷ alike ('dot ∷ '= ∷ '> ∷ 'quote ∷ 'a ∷ 'quote ∷ []) (22 ∷ 0 ∷ 1 ∷ [])
    -- ---- outside code all is 01's: r#"a" and 'a'
    ∷ alike ('r ∷ '# ∷ 'dquote ∷ 'a ∷ 'dquote ∷ []) (5 ∷ 0 ∷ 5 ∷ [])
    ∷ alike ('quote ∷ 'a ∷ 'quote ∷ []) (19 ∷ 0 ∷ 3 ∷ 1 ∷ 2 ∷ 0 ∷ 0 ∷ 3 ∷ [])
    ∷ []

-- what a run from the start answers
abbrev stop : Outcome → ℕ → List ℕ
stop Running n = []
stop Ended n = 0 ∷ 0 ∷ n ∷ []
stop (Refused r) n = code_number r.code ∷ r.place ∷ n ∷ []

abbrev answer : Reading → ℕ → List ℕ → List ℕ
answer rd k s = numbers_all (whole_run s k 99 9 (start_in rd)).tokens ++ stop (ran_of s k 99 9 (start_in rd)).how (ran_of s k 99 9 (start_in rd)).advances

unfoldable pub answered : List Row → List Row
answered [] = []
answered (r ∷ rs) = row r.shift r.text (answer Old r.shift r.text) (answer Kept r.shift r.text) ∷ answered rs

pub both_answers : answered rows ≡ rows
unfolding answered rows groups ran_with whole_run_with checks reach run_with run_from_with step_with next gap gap_turn comment_turn token_or_end token starts single singles half stray bang colon dot look tilde minus arrow_look arrow_code right_arrow equals attribute_turn attempt_body attempt_bracket attempt dropped attribute_token hash regex_token hashed regex_literal r_word spells keywords use_token id_token keyword_token word_token identifierish escape string_literal char_literal lifetimeish slash_skip quote_last quote_end one_skip esc_skip quote_skip body_skip r_skip opens closes code_turn walk_from deliver plain refuse more told depth_from slash_depth deepest if_next until after chars chars_from sight lead low high width_of start_ranges continue_ranges holds in_ranges
both_answers = refl

-- which of the rows meet none of the three places (Places): there, and not only there, both answers are one
unfoldable pub calms : List Row → List Bool
calms [] = []
calms (r ∷ rs) = calm (suc (length r.text)) r.text 0 ∷ calms rs

pub calm-rows : calms rows
    ≡ false ∷ false ∷ false ∷ false ∷ true ∷ false ∷ false ∷ false ∷ false ∷ false ∷ false ∷ false ∷ false ∷ false ∷ false ∷ false ∷ false ∷ false ∷ false
    ∷ true ∷ true ∷ true ∷ true ∷ true ∷ true ∷ true ∷ []
unfolding calms rows calm meets first_meets token_meets word_meets equals_meets arrow_meets code_meets_from differs some next gap gap_turn comment_turn token_or_end token starts single singles half stray bang colon dot look tilde minus arrow_look arrow_code right_arrow equals attribute_turn attempt_body attempt_bracket attempt dropped attribute_token hash regex_token hashed regex_literal r_word spells keywords use_token id_token keyword_token word_token identifierish escape string_literal char_literal lifetimeish slash_skip quote_last quote_end one_skip esc_skip quote_skip body_skip r_skip opens closes code_turn walk_from deliver plain refuse more told depth_from slash_depth deepest if_next until after chars chars_from sight lead low high width_of start_ranges continue_ranges holds in_ranges
calm-rows = refl
