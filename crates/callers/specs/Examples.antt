-- Runs by computation: each code comes out of some run, and a run that 14 stopped is taken up.
use Rattle.std.specs.Prelude.{ℕ, List, [], ◌∷◌, ◌≡◌, refl}
use Rattle.utf8.specs.Chars.{'#, '*, '/, '1, '=, '>, 'backtick, 'comma, 'dot, 'dquote, 'quote, 'r}
use Rattle.utf8.specs.Utf8.{chars, chars_from, high, lead, low, reach, sight, width_of}
use Rattle.unicode_xid.specs.Ranges.{holds, in_ranges}
use Rattle.unicode_xid.specs.Tables.{continue_ranges, start_ranges}
use Rattle.record.specs.Records.{refusal}
use Rattle.record.specs.declared.Code.TheVariants.{NoRoom}
use Rattle.scan.specs.Depth.{deepest, depth_from, slash_depth}
use Rattle.scan.specs.Far.{after}
use Rattle.scan.specs.IfNext.{if_next}
use Rattle.scan.specs.Until.{until}
use Rattle.scan.specs.Walk.{walk_from}
use Rattle.code.specs.Code.{body_skip, closes, code_turn, esc_skip, one_skip, opens, quote_end, quote_last, quote_skip, r_skip, slash_skip}
use Rattle.reading.specs.Answers.{deliver, more, plain, refuse, start_state, told}
use Rattle.reading.specs.Attribute.{attempt, attempt_body, attempt_bracket, attribute_token, attribute_turn, dropped, hash}
use Rattle.reading.specs.Gaps.{comment_turn, gap, gap_turn}
use Rattle.reading.specs.Next.{next, starts, token, token_or_end}
use Rattle.reading.specs.Quotes.{char_literal, escape, lifetimeish, string_literal}
use Rattle.reading.specs.Regex.{hashed, r_word, regex_literal, regex_token}
use Rattle.reading.specs.Run.{run_from_with, run_with, step_with}
use Rattle.reading.specs.Symbols.{arrow_code, arrow_look, bang, colon, dot, equals, half, look, minus, right_arrow, single, singles, stray, tilde}
use Rattle.reading.specs.Words.{id_token, identifierish, keyword_token, keywords, spells, use_token, word_token}
use Rattle.reading.specs.declared.Outcome.{Outcome}
use Rattle.reading.specs.declared.Outcome.TheVariants.{Ended, Refused, Running}
use Rattle.record.specs.Checks.{checks}
use Rattle.record.specs.Numbers.{code_number}
use Rattle.run.specs.Checked.{ran_of, ran_with, whole_run_with}
use Rattle.run.specs.declared.Ran.{Ran}

-- how a run stopped, by number: 0 at the end
abbrev stop : Outcome → ℕ
stop Running = 0
stop Ended = 0
stop (Refused r) = code_number r.code

-- a run from the start, with a shift, a limit and room
abbrev code : List ℕ → ℕ → ℕ → ℕ → ℕ
code s shift limit room = stop (ran_of s shift limit room start_state).how

-- EACH CODE COMES OUT of some run: 22, 23, 2 5 6 8 9 10, and 11, 13, 14, 15. (12 too, of a text too long to write here.) So `run_codes` is no wider than it must be.
unfoldable pub outcomes : List ℕ
outcomes =
    code ('dot ∷ []) 0 99 9
    ∷ code ('1 ∷ []) 0 99 9
    ∷ code ('backtick ∷ []) 0 99 9
    ∷ code ('dquote ∷ []) 0 99 9
    ∷ code ('quote ∷ []) 0 99 9
    ∷ code ('= ∷ '> ∷ []) 0 99 9
    ∷ code ('r ∷ '# ∷ '1 ∷ []) 0 99 9
    ∷ code ('/ ∷ '* ∷ []) 0 99 9
    ∷ code (0x80 ∷ []) 0 99 9
    ∷ code [] 18446744073709551616 99 9
    ∷ code ('comma ∷ []) 0 99 0
    ∷ code ('comma ∷ []) 0 0 9
    ∷ []

pub each_comes_out : outcomes ≡ 22 ∷ 23 ∷ 2 ∷ 5 ∷ 6 ∷ 8 ∷ 9 ∷ 10 ∷ 11 ∷ 13 ∷ 14 ∷ 15 ∷ []
unfolding outcomes ran_with whole_run_with checks run_with run_from_with step_with next gap gap_turn comment_turn token_or_end token starts single singles half stray bang colon dot look tilde minus arrow_look arrow_code right_arrow equals attribute_turn attempt_body attempt_bracket attempt dropped attribute_token hash regex_token hashed regex_literal r_word spells keywords use_token id_token keyword_token word_token identifierish escape string_literal char_literal lifetimeish slash_skip quote_last quote_end one_skip esc_skip quote_skip body_skip r_skip opens closes code_turn walk_from deliver plain refuse more told depth_from slash_depth deepest if_next until after chars chars_from sight lead low high width_of start_ranges continue_ranges holds in_ranges reach
each_comes_out = refl

-- TAKING UP: two commas, with room for one. 14 at the second; a second run from the tokenizer left behind stores it and comes to the end, with count 2
abbrev commas : List ℕ
commas = 'comma ∷ 'comma ∷ []

abbrev first : Ran
first = ran_of commas 7 99 1 start_state

abbrev second : Ran
second = ran_of commas 7 99 1 first.state

pub taken_up_once : (first.how ≡ Refused (refusal NoRoom 8)) × (first.advances ≡ 1) × (second.how ≡ Ended) × (second.stored ≡ 1) × (second.advances ≡ 2)
unfolding ran_with whole_run_with checks run_with run_from_with step_with next gap gap_turn token_or_end token single singles walk_from deliver plain more told depth_from slash_depth deepest chars chars_from sight lead low high width_of reach
taken_up_once = (refl, refl, refl, refl, refl)
