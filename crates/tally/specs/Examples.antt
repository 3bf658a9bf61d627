-- Small files, by computation.
use Rattle.std.specs.Prelude.{ℕ, false, ◌≡◌, refl, List}
use Rattle.std.proofs.Common.{ap, ◌∙◌, arith}
use Rattle.unicode_xid.specs.Ranges.{holds, in_ranges}
use Rattle.unicode_xid.specs.Tables.{start_ranges}
use Rattle.text.specs.Bytes.{bytes}
use Rattle.property.specs.Hex.{digit_of, hex_from, hex_of}
use Rattle.property.specs.Lines.{front, starts_with, known_of, semi_of, last_of, range_of, first_of, line_of, read_of, line_at}
use Rattle.property.specs.declared.line.Property.TheVariants.{Start, White}
use Rattle.tally.specs.declared.tally.Tally.{Tally}
use Rattle.tally.specs.Tallies.{end, noted, step_of, steps_of, spoilt_of, with_range, with_line, lines_from, of_lines, tally_of, agrees_of}
use Rattle.tally.specs.Laws.{tally-first, tally_damaged}

-- a tally below `next`, in which nothing or one thing is noted
abbrev tally : ℕ → ℕ → ℕ → ℕ → ℕ → Tally
tally next told yes' first damaged = record { next = next; told = told; yes = yes'; first = first; damaged = damaged }

-- the first two lines of White_Space as Unicode has them: six code points named, and six by the function
pub right : of_lines (bytes "0009..000D ; White_Space # 5\n0020 ; White_Space # SPACE\n") White ≡ tally 0x21 6 6 end 0
unfolding bytes digit_of hex_from hex_of front starts_with known_of semi_of last_of range_of first_of line_of read_of line_at noted step_of steps_of spoilt_of with_range with_line lines_from of_lines
right = refl

-- the letters of ASCII: the function names `_` too, which is no difference
pub letters : of_lines (bytes "0041..005A ; XID_Start # A..Z\n0061..007A ; XID_Start # a..z\n") Start ≡ tally 0x7B 52 53 end 0
unfolding holds in_ranges start_ranges bytes digit_of hex_from hex_of front starts_with known_of semi_of last_of range_of first_of line_of read_of line_at noted step_of steps_of spoilt_of with_range with_line lines_from of_lines
letters = refl

-- the second line is wrong: U+000E is no White_Space
abbrev wrong : List ℕ
wrong = bytes "0009..000D ; White_Space # 5\n000E ; White_Space # wrong\n"

pub wrong-lines : of_lines wrong White ≡ tally 0x0F 6 5 0x0E 0
unfolding bytes digit_of hex_from hex_of front starts_with known_of semi_of last_of range_of first_of line_of read_of line_at noted step_of steps_of spoilt_of with_range with_line lines_from of_lines
wrong-lines = refl

pub difference : (tally_of wrong White).first ≡ 0x0E
difference = tally-first wrong White 0x0E (ap (λ (t : Tally). t.first) wrong-lines) (omega arith)

pub refused : agrees_of (tally_of wrong White) ≡ false
refused = rw (tally_damaged wrong White, wrong-lines, difference)

-- the second line has no `;`
abbrev cut : List ℕ
cut = bytes "0009..000D ; White_Space # 5\n0020 White_Space # cut\n"

pub cut-lines : of_lines cut White ≡ tally 0x0E 5 5 end 2
unfolding bytes digit_of hex_from hex_of front starts_with known_of semi_of last_of range_of first_of line_of read_of line_at noted step_of steps_of spoilt_of with_range with_line lines_from of_lines
cut-lines = refl

pub unread : (tally_of cut White).damaged ≡ 2
unread = tally_damaged cut White ∙ ap (λ (t : Tally). t.damaged) cut-lines

pub refused_too : agrees_of (tally_of cut White) ≡ false
refused_too = rw unread
