-- 01's listing, to the byte, that of the same text in the kept reading, one with depths, and what a text that is too long gives.
use Rattle.std.specs.Prelude.{ℕ, ◌<◌, List, ◌≡◌, refl, length}
use Rattle.std.proofs.Common.{lt-ltb}
use Rattle.utf8.specs.Utf8.{chars, chars_from, high, lead, low, reach, sight, width_of}
use Rattle.unicode_xid.specs.Ranges.{holds, in_ranges}
use Rattle.unicode_xid.specs.Tables.{continue_ranges, start_ranges}
use Rattle.record.specs.Checks.{checks}
use Rattle.record.specs.declared.Reading.{Reading}
use Rattle.record.specs.declared.Reading.TheVariants.{Kept, Old}
use Rattle.scan.specs.Depth.{deepest, depth_from, slash_depth}
use Rattle.scan.specs.Far.{after}
use Rattle.scan.specs.IfNext.{if_next}
use Rattle.scan.specs.Until.{until}
use Rattle.scan.specs.Walk.{walk_from}
use Rattle.code.specs.Code.{body_skip, closes, code_turn, esc_skip, one_skip, opens, quote_end, quote_skip, r_skip, slash_skip}
use Rattle.reading.specs.Answers.{deliver, more, plain, refuse, told}
use Rattle.reading.specs.Attribute.{attempt, attempt_body, attempt_bracket, attribute_token, attribute_turn, dropped, hash}
use Rattle.reading.specs.Gaps.{comment_turn, gap, gap_turn}
use Rattle.reading.specs.Next.{next, starts, token, token_or_end}
use Rattle.reading.specs.Quotes.{char_literal, escape, lifetimeish, string_literal}
use Rattle.reading.specs.Regex.{hashed, r_word, regex_literal, regex_token}
use Rattle.reading.specs.Run.{run_from_with, run_with, step_with}
use Rattle.reading.specs.Symbols.{arrow_code, arrow_look, bang, colon, dot, equals, half, look, minus, right_arrow, single, singles, stray, tilde}
use Rattle.reading.specs.Words.{id_token, identifierish, keyword_token, keywords, spells, use_token, word_token}
use Rattle.run.specs.Checked.{ran_with, whole_run_with}
use Rattle.run.specs.declared.Group.{Group}
use Rattle.run.specs.declared.Group.TheVariants.{Five, Nine}
use Rattle.text.specs.Bytes.{bytes, join}
use Rattle.text.specs.Digits.{digits, digits_then, width, width_in}
use Rattle.text.specs.Lines.{depth_line, end_depth_line, end_line, error_line, token_line}
use Rattle.text.specs.Names.{code_name, code_names, kind_name, kind_names}
use Rattle.commands.specs.Lists.{listing, run_lines, text_limit}

-- 01's five lines
pub five_lines : join (listing Old Five (bytes "#![a]xb=>c;")) ≡ bytes "0 5 ShebangAttribute\n6 7 Id\n7 10 EqualsGreaterThanCode\n10 11 Semi\nend advances 11\n"
unfolding listing run_lines whole_run_with ran_with checks reach bytes join digits digits_then width width_in end_line token_line kind_name kind_names run_with run_from_with step_with next gap gap_turn comment_turn token_or_end token starts single singles half stray bang colon dot look tilde minus arrow_look arrow_code right_arrow equals attribute_turn attempt_body attempt_bracket attempt dropped attribute_token hash regex_token hashed regex_literal r_word spells keywords use_token id_token keyword_token word_token identifierish escape string_literal char_literal lifetimeish slash_skip quote_end one_skip esc_skip quote_skip body_skip r_skip opens closes code_turn walk_from deliver plain refuse more told depth_from slash_depth deepest if_next until after chars chars_from sight lead low high width_of start_ranges continue_ranges holds in_ranges
five_lines = refl

-- 02, E5: the kept reading keeps the letter after the attribute in its word
pub kept-lines : join (listing Kept Five (bytes "#![a]xb=>c;")) ≡ bytes "0 5 ShebangAttribute\n5 7 Id\n7 10 EqualsGreaterThanCode\n10 11 Semi\nend advances 11\n"
unfolding listing run_lines whole_run_with ran_with checks reach bytes join digits digits_then width width_in end_line token_line kind_name kind_names run_with run_from_with step_with next gap gap_turn comment_turn token_or_end token starts single singles half stray bang colon dot look tilde minus arrow_look arrow_code right_arrow equals attribute_turn attempt_body attempt_bracket attempt dropped attribute_token hash regex_token hashed regex_literal r_word spells keywords use_token id_token keyword_token word_token identifierish escape string_literal char_literal lifetimeish slash_skip quote_end one_skip esc_skip quote_skip body_skip r_skip opens closes code_turn walk_from deliver plain refuse more told depth_from slash_depth deepest if_next until after chars chars_from sight lead low high width_of start_ranges continue_ranges holds in_ranges
kept-lines = refl

-- 02, E4, with depths: two in the gap before `a`, one in the code, one in the last gap
pub deep-lines : join (listing Old Nine (bytes "/*/**/*/a=>b/* */;/**/")) ≡ bytes "8 9 Id 2 0\n9 17 EqualsGreaterThanCode 0 1\n17 18 Semi 0 0\nend advances 22 depth 1\n"
unfolding listing run_lines whole_run_with ran_with checks reach bytes join digits digits_then width width_in end_depth_line depth_line kind_name kind_names run_with run_from_with step_with next gap gap_turn comment_turn token_or_end token starts single singles half stray bang colon dot look tilde minus arrow_look arrow_code right_arrow equals attribute_turn attempt_body attempt_bracket attempt dropped attribute_token hash regex_token hashed regex_literal r_word spells keywords use_token id_token keyword_token word_token identifierish escape string_literal char_literal lifetimeish slash_skip quote_end one_skip esc_skip quote_skip body_skip r_skip opens closes code_turn walk_from deliver plain refuse more told depth_from slash_depth deepest if_next until after chars chars_from sight lead low high width_of start_ranges continue_ranges holds in_ranges
deep-lines = refl

-- every text above 32,768 bytes, in either reading
pub too_long : (rd : Reading) (g : Group) (s : List ℕ) → text_limit < length s → join (listing rd g s) ≡ bytes "error TooLong at 0 advances 0\n"
unfolding listing bytes join digits digits_then width width_in error_line code_name code_names
too_long rd g s h = rw (lt-ltb text_limit (length s) h) refl
