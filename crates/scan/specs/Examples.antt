-- A few readings, computed.
use Rattle.std.specs.Prelude.{[], ◌∷◌, ◌≡◌, refl, Ok}
use Rattle.utf8.specs.Chars.{'#, '*, '/, 'a, 'b, 'backslash, 'dquote}
use Rattle.utf8.specs.Utf8.{chars, chars_from, high, lead, low, sight, width_of}
use Rattle.scan.specs.Readers.{comment_end, regex_end, string_end}
use Rattle.scan.specs.Until.{until}

-- é\"" : the escaped quote is passed
pub string_example : string_end 'dquote (chars (0xC3 ∷ 0xA9 ∷ 'backslash ∷ 'dquote ∷ 'dquote ∷ [])) 7 ≡ Ok (11, 3)
unfolding until chars chars_from sight lead low high width_of
string_example = refl

-- /**/*/ after /*
pub comment_example : comment_end (chars ('/ ∷ '* ∷ '* ∷ '/ ∷ '* ∷ '/ ∷ [])) 2 ≡ Ok (7, 5)
unfolding until chars chars_from sight lead low high width_of
comment_example = refl

-- a"b"# with one hash
pub regex_example : regex_end 1 (chars ('a ∷ 'dquote ∷ 'b ∷ 'dquote ∷ '# ∷ [])) 0 ≡ Ok (4, 4)
unfolding until chars chars_from sight lead low high width_of
regex_example = refl
