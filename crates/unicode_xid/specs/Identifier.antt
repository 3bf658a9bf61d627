-- 01: "Identifier characters are XID_Start and XID_Continue of DerivedCoreProperties.txt, each with `_`". The tables have `_` in them.
use Rattle.std.specs.Prelude.{ℕ, Bool, ◌&&◌, ◌||◌, leb, eqb}
use Rattle.unicode_xid.specs.Tables.{start_ranges, continue_ranges}
use Rattle.unicode_xid.specs.Ranges.{in_ranges}

abbrev pub is_identifier_start : ℕ → Bool
is_identifier_start c = in_ranges start_ranges c

abbrev pub is_identifier_continue : ℕ → Bool
is_identifier_continue c = in_ranges continue_ranges c

-- what the tables say below 128: letters and `_`, and digits too
abbrev pub ascii_start : ℕ → Bool
ascii_start c = (leb 97 c && leb c 122) || (leb 65 c && leb c 90) || eqb c 95

abbrev pub ascii_continue : ℕ → Bool
ascii_continue c = (leb 97 c && leb c 122) || (leb 65 c && leb c 90) || eqb c 95 || (leb 48 c && leb c 57)
