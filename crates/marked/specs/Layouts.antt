-- How the C functions lay out their answers, by computation: what each number is, that the others stay, and what a short `answer` leaves.
use Rattle.std.specs.Prelude.{List, [], ◌∷◌, ◌≡◌, refl, ℕ}
use Rattle.numbers.specs.Leaves.{Left, tell}
use Rattle.teykonasir.specs.Calls.{expand_call, place_at_call, place_call, read_call, run_call, write_call}
use Rattle.escapes.specs.Answers.{applied, expanded}
use Rattle.escapes.specs.Escapes.{ascii_escape, digit, escape as escapeOf, expand, expand_from, has_byte, stands}
use Rattle.ltk.specs.Layout.{little, number_at}
use Rattle.ltk.specs.Ltk.{file_check, flat, header_bytes, image, judged, listed, read_answer, read_numbers, record_bytes, write_answer, written_bytes}
use Rattle.run.specs.Numbers.{groups}
use Rattle.utf8.specs.Utf8.{chars, chars_from, high, lead, low, reach, sight, width_of}
use Rattle.unicode_xid.specs.Ranges.{holds, in_ranges}
use Rattle.unicode_xid.specs.Tables.{continue_ranges, start_ranges}
use Rattle.record.specs.Checks.{checks}
use Rattle.scan.specs.Depth.{deepest, depth_from, slash_depth}
use Rattle.scan.specs.Far.{after}
use Rattle.scan.specs.IfNext.{if_next}
use Rattle.scan.specs.Until.{until}
use Rattle.scan.specs.Walk.{walk_from}
use Rattle.code.specs.Code.{body_skip, closes, code_turn, esc_skip, one_skip, opens, quote_end, quote_last, quote_skip, r_skip, slash_skip}
use Rattle.reading.specs.Answers.{deliver, more, plain, refuse, told as toldCall}
use Rattle.reading.specs.Attribute.{attempt, attempt_body, attempt_bracket, attribute_token, attribute_turn, dropped, hash}
use Rattle.reading.specs.Gaps.{comment_turn, gap, gap_turn}
use Rattle.reading.specs.Next.{next, starts, token, token_or_end}
use Rattle.reading.specs.Quotes.{char_literal, escape, lifetimeish, string_literal}
use Rattle.reading.specs.Regex.{hashed, r_word, regex_literal, regex_token}
use Rattle.reading.specs.Run.{run_from_with, run_with, step_with}
use Rattle.reading.specs.Symbols.{arrow_code, arrow_look, bang, colon, dot, equals, half, look, minus, right_arrow, single, singles, stray, tilde}
use Rattle.reading.specs.Words.{id_token, identifierish, keyword_token, keywords, spells, use_token, word_token}
use Rattle.run.specs.Checked.{ran_with, whole_run_with}
use Rattle.place.specs.Place.{answered, before, bytes_to, ends, line_end, line_column, lines_ended, located, place_at, reported, starts_newline, units, units_since}

abbrev left : ℕ → List ℕ → List ℕ → Left
left result lent numbers = record { result = result; lent = lent; numbers = numbers }

-- four numbers are told, and the fifth stays; with three nothing is written and the result is 14
pub told : (tell 4 8 (8 ∷ 3 ∷ 1 ∷ 2 ∷ []) (5 ∷ []) (6 ∷ []) (9 ∷ 9 ∷ 9 ∷ 9 ∷ 9 ∷ []) ≡ left 8 (5 ∷ []) (8 ∷ 3 ∷ 1 ∷ 2 ∷ 9 ∷ []))
    × (tell 4 8 (8 ∷ 3 ∷ 1 ∷ 2 ∷ []) (5 ∷ []) (6 ∷ []) (9 ∷ 9 ∷ 9 ∷ []) ≡ left 14 (6 ∷ []) (9 ∷ 9 ∷ 9 ∷ []))
unfolding tell
told = (refl, refl)

-- line first, then column: after `a`, LF, `é`; of a text that is ill-formed at its second byte, that place and 0
pub place_told : (place_call (97 ∷ 10 ∷ 195 ∷ 169 ∷ 98 ∷ []) 4 (9 ∷ 9 ∷ 9 ∷ []) ≡ left 0 [] (1 ∷ 1 ∷ 9 ∷ []))
    × (place_call (97 ∷ 255 ∷ []) 0 (9 ∷ 9 ∷ []) ≡ left 11 [] (1 ∷ 0 ∷ []))
unfolding place_call tell answered reported line_column before lines_ended units_since ends line_end starts_newline units checks reach chars chars_from sight lead low high width_of
place_told = (refl, refl)

-- and back
pub place_at-told : (place_at_call (97 ∷ 10 ∷ 195 ∷ 169 ∷ 98 ∷ []) 1 1 (9 ∷ 9 ∷ []) ≡ left 0 [] (4 ∷ 9 ∷ []))
    × (place_at_call (97 ∷ 255 ∷ []) 0 0 (9 ∷ []) ≡ left 11 [] (1 ∷ []))
unfolding place_at_call tell answered located place_at bytes_to ends line_end starts_newline units checks reach chars chars_from sight lead low high width_of
place_at-told = (refl, refl)

-- `;` with shift 7: one record of five numbers, and the sixth number stays; code 0, place 0, one record, one advance
pub run-told : run_call (59 ∷ []) 7 9 (6 ∷ 6 ∷ 6 ∷ 6 ∷ 6 ∷ 6 ∷ []) (9 ∷ 9 ∷ 9 ∷ 9 ∷ 9 ∷ []) ≡ left 0 (48 ∷ 7 ∷ 8 ∷ 7 ∷ 7 ∷ 6 ∷ []) (0 ∷ 0 ∷ 1 ∷ 1 ∷ 9 ∷ [])
unfolding run_call tell groups whole_run_with ran_with checks reach run_with run_from_with step_with next gap gap_turn comment_turn token_or_end token starts single singles half stray bang colon dot look tilde minus arrow_look arrow_code right_arrow equals attribute_turn attempt_body attempt_bracket attempt dropped attribute_token hash regex_token hashed regex_literal r_word spells keywords use_token id_token keyword_token word_token identifierish escape string_literal char_literal lifetimeish slash_skip quote_last quote_end one_skip esc_skip quote_skip body_skip r_skip opens closes code_turn walk_from deliver plain refuse more toldCall depth_from slash_depth deepest if_next until after chars chars_from sight lead low high width_of start_ranges continue_ranges holds in_ranges
run-told = refl

-- `.` with shift 7: refused by 22 at 7, no record, one advance
pub refused_told : run_call (46 ∷ []) 7 9 (6 ∷ 6 ∷ []) (9 ∷ 9 ∷ 9 ∷ 9 ∷ []) ≡ left 22 (6 ∷ 6 ∷ []) (22 ∷ 7 ∷ 0 ∷ 1 ∷ [])
unfolding run_call tell groups whole_run_with ran_with checks reach run_with run_from_with step_with next gap gap_turn comment_turn token_or_end token starts single singles half stray bang colon dot look tilde minus arrow_look arrow_code right_arrow equals attribute_turn attempt_body attempt_bracket attempt dropped attribute_token hash regex_token hashed regex_literal r_word spells keywords use_token id_token keyword_token word_token identifierish escape string_literal char_literal lifetimeish slash_skip quote_last quote_end one_skip esc_skip quote_skip body_skip r_skip opens closes code_turn walk_from deliver plain refuse more toldCall depth_from slash_depth deepest if_next until after chars chars_from sight lead low high width_of start_ranges continue_ranges holds in_ranges
refused_told = refl

-- `\n` with idx0 5 into the middle of a buffer: no refusal, 1 for the buffer, from 1 to 2; a lone backslash: its place, and nothing else
pub expand-told : (expand_call (92 ∷ 110 ∷ []) 5 (6 ∷ 6 ∷ 6 ∷ []) 1 (9 ∷ 9 ∷ 9 ∷ 9 ∷ []) ≡ left 0 (6 ∷ 10 ∷ 6 ∷ []) (0 ∷ 1 ∷ 1 ∷ 2 ∷ []))
    × (expand_call (92 ∷ []) 5 (6 ∷ []) 0 (9 ∷ 9 ∷ 9 ∷ 9 ∷ []) ≡ left 16 (6 ∷ []) (5 ∷ 0 ∷ 0 ∷ 0 ∷ []))
unfolding expand_call tell applied expanded expand expand_from stands escapeOf ascii_escape digit has_byte checks reach chars chars_from sight lead low high width_of
expand-told = (refl, refl)

-- a record as a file of eighteen bytes, and the file as a record of five numbers: code, place, how many bytes or records
abbrev file : List ℕ
file = 76 ∷ 84 ∷ 75 ∷ 1 ∷ 0 ∷ 1 ∷ 0 ∷ 0 ∷ 0 ∷ 15 ∷ 3 ∷ 0 ∷ 0 ∷ 0 ∷ 5 ∷ 0 ∷ 0 ∷ 0 ∷ []

pub write-told : write_call (15 ∷ 3 ∷ 5 ∷ 3 ∷ 5 ∷ []) (1 ∷ 2 ∷ 3 ∷ 4 ∷ 5 ∷ 6 ∷ 7 ∷ 8 ∷ 9 ∷ 10 ∷ 11 ∷ 12 ∷ 13 ∷ 14 ∷ 15 ∷ 16 ∷ 17 ∷ 18 ∷ []) (9 ∷ 9 ∷ 9 ∷ []) ≡ left 0 file (0 ∷ 0 ∷ 18 ∷ [])
unfolding write_call tell write_answer written_bytes image header_bytes flat record_bytes little listed judged
write-told = refl

pub read_told : read_call file (6 ∷ 6 ∷ 6 ∷ 6 ∷ 6 ∷ 6 ∷ []) (9 ∷ 9 ∷ 9 ∷ 9 ∷ []) ≡ left 0 (15 ∷ 3 ∷ 5 ∷ 3 ∷ 3 ∷ 6 ∷ []) (0 ∷ 0 ∷ 1 ∷ 9 ∷ [])
unfolding read_call tell read_answer read_numbers file_check flat judged listed number_at
read_told = refl
