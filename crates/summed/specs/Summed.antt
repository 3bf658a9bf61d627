-- WHAT A RECORDED ANSWER ADDS, laid out as a sheet: read off the recorded numbers and the text alone, nothing of the tokenizer is used. The request for 02, E2: "the sum of
-- the Rust's recorded answers in replay's file equals the sheet's totals over the same texts".
use Rattle.std.specs.Prelude.{ℕ, suc, ◌+◌, ◌-◌, ◌%◌, ◌^◌, Bool, cond, ◌&&◌, List, [], ◌∷◌, length, drop, ◌==◌, nat_le, nat_lt, slice_index, slice_range, slice_set}

-- the numbers of a sheet; a row's 55 holds whitespace and comments together, since the Rust's answers do not tell them apart
abbrev pub in_tokens : ℕ
in_tokens = 54

abbrev pub in_gaps : ℕ
in_gaps = 55

abbrev pub in_comments : ℕ
in_comments = 56

abbrev pub dropped_after : ℕ
dropped_after = 57

abbrev pub advances_in : ℕ
advances_in = 58

abbrev pub failed_in : ℕ
failed_in = 59

abbrev pub texts_taken : ℕ
texts_taken = 60

abbrev pub deepest_in : ℕ
deepest_in = 61

abbrev pub tallies : ℕ
tallies = 64

-- the kinds that add more than themselves
abbrev pub hash : ℕ
hash = 34

abbrev pub attribute : ℕ
attribute = 53

-- number i of a row with n more, or n fewer, modulo 2^64; a number that the row has not is left out
unfoldable pub more : ℕ → ℕ → List ℕ → List ℕ
more i n row = slice_set row i ((slice_index row i + n) % 2 ^ 64)

unfoldable pub fewer : ℕ → ℕ → List ℕ → List ℕ
fewer i n row = slice_set row i ((slice_index row i + (2 ^ 64 - n)) % 2 ^ 64)

-- the characters that start in bytes: those that are not 128 to 191
unfoldable pub characters : List ℕ → ℕ
characters [] = 0
characters (b ∷ bs) = cond (nat_le 128 b && nat_le b 191) (characters bs) (suc (characters bs))

-- those that start from the place a on and before the place b
unfoldable pub between : List ℕ → ℕ → ℕ → ℕ
between s a b = characters (slice_range s a b)

-- after an attribute one character is dropped, if there is one; b is the place where the token ends
unfoldable pub dropped : List ℕ → ℕ → ℕ → ℕ
dropped s kind b = cond (kind == attribute && nat_lt b (length s)) 1 0

-- an attempt that failed delivers a Hash
unfoldable pub failed : ℕ → ℕ
failed kind = cond (kind == hash) 1 0

-- a token from a to b: one of its kind, its characters, what is dropped after it, an attempt that failed; none of its characters is in a gap
unfoldable pub token_onto : List ℕ → ℕ → ℕ → ℕ → List ℕ → List ℕ
token_onto s kind a b row =
    fewer in_gaps (between s a b + dropped s kind b)
    (more failed_in (failed kind)
    (more dropped_after (dropped s kind b)
    (more in_tokens (between s a b)
    (more kind 1 row))))

-- five numbers a token: kind, start, end and two more; the places are recorded with the shift. Fewer than five are no token.
unfoldable pub tokens_onto : List ℕ → ℕ → List ℕ → List ℕ → List ℕ
tokens_onto s shift (kind ∷ start ∷ end ∷ p ∷ q ∷ ts) row = tokens_onto s shift ts (token_onto s kind (start - shift) (end - shift) row)
tokens_onto s shift [] row = row
tokens_onto s shift (a ∷ []) row = row
tokens_onto s shift (a ∷ b ∷ []) row = row
tokens_onto s shift (a ∷ b ∷ c ∷ []) row = row
tokens_onto s shift (a ∷ b ∷ c ∷ d ∷ []) row = row

-- the numbers of a case by their place: shift, number of tokens, code (0 at the end), place, advances, cursor, and then the tokens
abbrev pub shift_at : ℕ
shift_at = 0

abbrev pub code_at : ℕ
code_at = 2

abbrev pub advances_at : ℕ
advances_at = 4

abbrev pub tokens_at : ℕ
tokens_at = 6

-- a text that was read to its end: all its characters are in gaps, less those that its tokens take away
unfoldable pub ended_onto : List ℕ → List ℕ → List ℕ → List ℕ
ended_onto s recorded row =
    more advances_in (slice_index recorded advances_at)
    (more in_gaps (characters s)
    (tokens_onto s (slice_index recorded shift_at) (drop tokens_at recorded) row))

-- 02: "A text that ends in an error, 15 included, adds one to that error's tally and nothing else."
unfoldable pub answer_onto : List ℕ → List ℕ → List ℕ → List ℕ
answer_onto s recorded row =
    cond (slice_index recorded code_at == 0) (ended_onto s recorded row) (more (tallies + slice_index recorded code_at) 1 row)

-- 02: "none is tallied or changes the sheet": what the checks refuse, 11 to 13
unfoldable pub is_refused : ℕ → Bool
is_refused code = nat_le 11 code && nat_le code 13

-- any other text is one taken
unfoldable pub recorded_onto : List ℕ → List ℕ → List ℕ → List ℕ
recorded_onto s recorded row = cond (is_refused (slice_index recorded code_at)) row (more texts_taken 1 (answer_onto s recorded row))

-- number i of a sheet counts with another
unfoldable pub joined : ℕ → ℕ → List ℕ → List ℕ
joined i onto sheet = slice_set (more onto (slice_index sheet i) sheet) i 0

-- a sheet laid out as a row: its whitespace and its comments count together; so do 22 and 23, as the Rust's 1 (02, E3: "the finer two mapped back to 1");
-- how deep comments go (02, E4) the Rust's answers do not tell, so that is left out
unfoldable pub as_row : List ℕ → List ℕ
as_row sheet = slice_set (joined (tallies + 23) (tallies + 1) (joined (tallies + 22) (tallies + 1) (joined in_comments in_gaps sheet))) deepest_in 0
