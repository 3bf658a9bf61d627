-- Two runs by computation: the bound is reached, and an attribute at the very end drops nothing.
use Rattle.std.specs.Prelude.{◌*◌, ◌+◌, ◌-◌, ℕ, List, [], ◌∷◌, ◌≡◌, refl}
use Rattle.utf8.specs.Chars.{'!, '#, '[, '], 'a, 'comma}
use Rattle.utf8.specs.Utf8.{chars, chars_from, high, lead, low, reach, sight, width_of}
use Rattle.record.specs.Checks.{checks}
use Rattle.scan.specs.Depth.{deepest, depth_from, slash_depth}
use Rattle.scan.specs.Far.{after}
use Rattle.scan.specs.IfNext.{if_next}
use Rattle.scan.specs.Until.{until}
use Rattle.scan.specs.Walk.{walk_from}
use Rattle.reading.specs.Answers.{deliver, more, plain, start_state, told}
use Rattle.reading.specs.Attribute.{attempt, attempt_body, attempt_bracket, attribute_token, attribute_turn, dropped, hash}
use Rattle.reading.specs.Gaps.{gap, gap_turn}
use Rattle.reading.specs.Measures.{hashes, marks, reads_attribute}
use Rattle.reading.specs.Next.{next, starts, token, token_or_end}
use Rattle.reading.specs.Run.{run_from_with, run_with, step_with}
use Rattle.reading.specs.Symbols.{bang, single, singles}
use Rattle.run.specs.Checked.{ran_of, ran_with, whole_run_with}
use Rattle.ledger.specs.Books.{B, H, N}

-- #!, : each of the two characters after the hash is passed twice
abbrev twice : List ℕ
twice = '# ∷ '! ∷ 'comma ∷ []

pub bound-reached : ((ran_of twice 0 99 9 start_state).advances ≡ 5) × (N twice + 2 * (H twice - B twice) + B twice * N twice ≡ 5)
unfolding ran_with whole_run_with checks run_with run_from_with step_with next gap gap_turn token_or_end token starts single singles bang attempt attempt_bracket hash walk_from deliver plain more told depth_from slash_depth deepest if_next chars chars_from sight lead low high width_of reach hashes marks reads_attribute
bound-reached = (refl, refl)

-- #![a]
abbrev last : List ℕ
last = '# ∷ '! ∷ '[ ∷ 'a ∷ '] ∷ []

pub last-drops_nothing : ((ran_of last 0 99 9 start_state).advances ≡ 5) × ((ran_of last 0 99 9 start_state).stored ≡ 1) × (N last ≡ 5)
unfolding ran_with whole_run_with checks run_with run_from_with step_with next gap gap_turn token_or_end token attempt attempt_bracket attempt_body attribute_turn attribute_token dropped after hash walk_from more told depth_from slash_depth deepest if_next until chars chars_from sight lead low high width_of reach
last-drops_nothing = (refl, refl, refl)
