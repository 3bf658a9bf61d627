-- What the functions of `unicode_xid` answer, and what is wanted of them.
use Rattle.std.specs.Prelude.{ℕ, Bool, false, cond, not, ◌||◌, eqb}
use Rattle.utf8.specs.Chars.{'underscore}
use Rattle.unicode_xid.specs.Whitespace.{is_whitespace}
use Rattle.unicode_xid.specs.Identifier.{is_identifier_start, is_identifier_continue}
use Rattle.property.specs.declared.line.Property.{Property}
use Rattle.property.specs.declared.line.Property.TheVariants.{Start, Continue, White}

-- the function's answer
abbrev pub asked : Property → ℕ → Bool
asked Start c = is_identifier_start c
asked Continue c = is_identifier_continue c
asked White c = is_whitespace c

-- 01: "each with `_`"
abbrev pub besides : Property → ℕ → Bool
besides Start c = eqb c 'underscore
besides Continue c = eqb c 'underscore
besides White c = false

-- the answer that is wanted where the file says `told`
abbrev pub wanted : Property → Bool → ℕ → Bool
wanted p told c = told || besides p c

-- whether an answer is not the one that is wanted
abbrev pub other : Bool → Bool → Bool
other answer want = cond answer (not want) want

-- the properties by number, so that they can be compared
abbrev pub number_of : Property → ℕ
number_of Start = 0
number_of Continue = 1
number_of White = 2

abbrev pub one : Bool → ℕ
one t = cond t 1 0
