-- ROWS, by computation: what tells the two apart in each of 02's cases. By the old definition each row has 1 in place of its code, and nothing else changes.
use Rattle.std.specs.Prelude.{ℕ, List, [], ◌∷◌, ◌≡◌, refl}
use Rattle.utf8.specs.Chars.{'!, '#, '-, '/, '1, '=, '>, 'L, '[, '], 'a, 'at, 'dot, 'quote, 'x, '~}
use Rattle.utf8.specs.Utf8.{chars, chars_from, high, lead, low, reach, sight, width_of}
use Rattle.unicode_xid.specs.Ranges.{holds, in_ranges}
use Rattle.unicode_xid.specs.Tables.{continue_ranges, start_ranges}
use Rattle.record.specs.Checks.{checks}
use Rattle.record.specs.Numbers.{code_number}
use Rattle.record.specs.Rust.{rust_number}
use Rattle.scan.specs.Depth.{deepest, depth_from, slash_depth}
use Rattle.scan.specs.Far.{after}
use Rattle.scan.specs.IfNext.{if_next}
use Rattle.scan.specs.Until.{until}
use Rattle.scan.specs.Walk.{walk_from}
use Rattle.code.specs.Code.{body_skip, closes, code_turn, esc_skip, one_skip, opens, quote_end, quote_last, quote_skip, r_skip, slash_skip}
use Rattle.reading.specs.Answers.{deliver, more, plain, refuse, start_state, told}
use Rattle.reading.specs.Attribute.{attempt, attempt_body, attempt_bracket, attribute_token, attribute_turn, dropped, hash}
use Rattle.reading.specs.Gaps.{comment_turn, gap, gap_turn}
use Rattle.reading.specs.Next.{next, starts, token, token_or_end}
use Rattle.reading.specs.Quotes.{char_literal, escape, lifetimeish, string_literal}
use Rattle.reading.specs.Regex.{hashed, r_word, regex_literal, regex_token}
use Rattle.reading.specs.Run.{run_from_with, run_with, step_with}
use Rattle.reading.specs.Symbols.{arrow_code, arrow_look, bang, colon, dot, equals, half, look, minus, right_arrow, single, singles, stray, tilde}
use Rattle.reading.specs.Words.{id_token, identifierish, keyword_token, keywords, spells, use_token, word_token}
use Rattle.reading.specs.declared.Outcome.{Outcome}
use Rattle.reading.specs.declared.Outcome.TheVariants.{Ended, Refused, Running}
use Rattle.run.specs.Checked.{ran_of, ran_with, whole_run_with}
use Rattle.run.specs.declared.Ran.{Ran}
use Rattle.unknown.specs.Rust as rust

-- how a run stopped, by number and place; then its advances and its cursor
abbrev stop : Outcome → ℕ → ℕ → List ℕ
stop Running n at = []
stop Ended n at = []
stop (Refused r) n at = code_number r.code ∷ r.place ∷ n ∷ at ∷ []

abbrev numbers_of : Ran → List ℕ
numbers_of r = stop r.how r.advances r.state.at

unfoldable pub rows : List (List ℕ × List ℕ)
rows =
    -- . ~ - / @ at the end of text
    ('dot ∷ [], 22 ∷ 0 ∷ 1 ∷ 1 ∷ [])
    ∷ ('~ ∷ [], 22 ∷ 0 ∷ 1 ∷ 1 ∷ [])
    ∷ ('- ∷ [], 22 ∷ 0 ∷ 1 ∷ 1 ∷ [])
    ∷ ('/ ∷ [], 22 ∷ 0 ∷ 1 ∷ 1 ∷ [])
    ∷ ('at ∷ [], 22 ∷ 0 ∷ 1 ∷ 1 ∷ [])
    -- =>@, =>@x and =>@ before another @: at the `=`
    ∷ ('= ∷ '> ∷ 'at ∷ [], 22 ∷ 0 ∷ 3 ∷ 3 ∷ [])
    ∷ ('= ∷ '> ∷ 'at ∷ 'x ∷ [], 22 ∷ 0 ∷ 3 ∷ 3 ∷ [])
    ∷ ('= ∷ '> ∷ 'at ∷ 'at ∷ 'L ∷ [], 22 ∷ 0 ∷ 3 ∷ 3 ∷ [])
    -- before another character: a.- and -x
    ∷ ('a ∷ 'dot ∷ '- ∷ [], 22 ∷ 1 ∷ 2 ∷ 2 ∷ [])
    ∷ ('- ∷ 'x ∷ [], 22 ∷ 0 ∷ 1 ∷ 1 ∷ [])
    -- #![a]//x: the character dropped after the attribute is half of a comment's mark
    ∷ ('# ∷ '! ∷ '[ ∷ 'a ∷ '] ∷ '/ ∷ '/ ∷ 'x ∷ [], 22 ∷ 6 ∷ 7 ∷ 7 ∷ [])
    -- a dollar sign, a euro sign, a digit, a backslash: not passed
    ∷ (0x24 ∷ [], 23 ∷ 0 ∷ 0 ∷ 0 ∷ [])
    ∷ (0xe2 ∷ 0x82 ∷ 0xac ∷ [], 23 ∷ 0 ∷ 0 ∷ 0 ∷ [])
    ∷ ('1 ∷ [], 23 ∷ 0 ∷ 0 ∷ 0 ∷ [])
    ∷ (0x5c ∷ [], 23 ∷ 0 ∷ 0 ∷ 0 ∷ [])
    -- a, a space and a dollar sign
    ∷ ('a ∷ 0x20 ∷ 0x24 ∷ [], 23 ∷ 2 ∷ 2 ∷ 2 ∷ [])
    -- 'a\' : a lifetime, and then a backslash
    ∷ ('quote ∷ 'a ∷ 0x5c ∷ 'quote ∷ [], 23 ∷ 2 ∷ 2 ∷ 2 ∷ [])
    -- U+0301, which goes on in a word and starts none; NUL; a byte order mark
    ∷ (0xcc ∷ 0x81 ∷ [], 23 ∷ 0 ∷ 0 ∷ 0 ∷ [])
    ∷ (0 ∷ [], 23 ∷ 0 ∷ 0 ∷ 0 ∷ [])
    ∷ (0xef ∷ 0xbb ∷ 0xbf ∷ [], 23 ∷ 0 ∷ 0 ∷ 0 ∷ [])
    ∷ []

unfoldable pub expected : List (List ℕ × List ℕ) → List (List ℕ)
expected [] = []
expected (r ∷ rs) = r.1 ∷ expected rs

unfoldable pub answered : List (List ℕ × List ℕ) → List (List ℕ)
answered [] = []
answered (r ∷ rs) = numbers_of (ran_of r.0 0 99 9 start_state) ∷ answered rs

pub which_is_which : answered rows ≡ expected rows
unfolding answered expected rows ran_with whole_run_with checks reach run_with run_from_with step_with next gap gap_turn comment_turn token_or_end token starts single singles half stray bang colon dot look tilde minus arrow_look arrow_code right_arrow equals attribute_turn attempt_body attempt_bracket attempt dropped attribute_token hash regex_token hashed regex_literal r_word spells keywords use_token id_token keyword_token word_token identifierish escape string_literal char_literal lifetimeish slash_skip quote_last quote_end one_skip esc_skip quote_skip body_skip r_skip opens closes code_turn walk_from deliver plain refuse more told depth_from slash_depth deepest if_next until after chars chars_from sight lead low high width_of start_ranges continue_ranges holds in_ranges
which_is_which = refl

-- the old definition
abbrev mapped : List ℕ → List ℕ
mapped [] = []
mapped (code ∷ ns) = rust_number code ∷ ns

unfoldable pub rust_expected : List (List ℕ × List ℕ) → List (List ℕ)
rust_expected [] = []
rust_expected (r ∷ rs) = mapped r.1 ∷ rust_expected rs

unfoldable pub rust_answered : List (List ℕ × List ℕ) → List (List ℕ)
rust_answered [] = []
rust_answered (r ∷ rs) = numbers_of (ran_with rust.next r.0 0 99 9 start_state) ∷ rust_answered rs

pub as_it_was : rust_answered rows ≡ rust_expected rows
unfolding rust_answered rust_expected rows ran_with whole_run_with checks reach run_with run_from_with step_with rust.next gap gap_turn comment_turn rust.token_or_end rust.token rust.starts single singles rust.half rust.stray bang colon rust.dot rust.look rust.tilde rust.minus rust.arrow_look arrow_code rust.right_arrow rust.equals attribute_turn attempt_body attempt_bracket attempt dropped attribute_token hash regex_token hashed regex_literal r_word spells keywords use_token id_token keyword_token word_token identifierish escape string_literal char_literal lifetimeish slash_skip quote_last quote_end one_skip esc_skip quote_skip body_skip r_skip opens closes code_turn walk_from deliver plain refuse more told depth_from slash_depth deepest if_next until after chars chars_from sight lead low high width_of start_ranges continue_ranges holds in_ranges
as_it_was = refl
