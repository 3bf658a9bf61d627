-- 01: "Whitespace is Unicode White_Space: U+0009 to 000D, 0020, 0085, 00A0, 1680, 2000 to 200A, 2028, 2029, 202F, 205F, 3000."
use Rattle.std.specs.Prelude.{ℕ, Bool, ◌&&◌, ◌||◌, leb, eqb}

abbrev pub is_whitespace : ℕ → Bool
is_whitespace c =
    (leb 0x0009 c && leb c 0x000D) || eqb c 0x0020 || eqb c 0x0085 || eqb c 0x00A0 || eqb c 0x1680
    || (leb 0x2000 c && leb c 0x200A) || eqb c 0x2028 || eqb c 0x2029 || eqb c 0x202F || eqb c 0x205F || eqb c 0x3000
