-- Hexadecimal numbers as Unicode's files write them: 0 to 9, and A to F.
use Rattle.std.specs.Prelude.{ℕ, ◌+◌, ◌-◌, ◌*◌, true, false, cond, ◌&&◌, List, [], ◌∷◌, leb, ltb}
use Rattle.property.specs.declared.line.Hex.{Hex}

-- a digit's value, and 16 for every other byte
unfoldable pub digit_of : ℕ → ℕ
digit_of b =
    cond (ltb b 0x30) 16 (cond (ltb b 0x3A) (b - 0x30) (cond (ltb b 0x41) 16 (cond (ltb b 0x47) (b - 0x41 + 10) 16)))

-- the digits at the front of a text, after n digits of the value v: the first weighs most, and past 10FFFF none is taken
unfoldable pub hex_from : ℕ → ℕ → List ℕ → Hex
hex_from v n [] = record { value = v; digits = n }
hex_from v n (b ∷ s) =
    elim (ltb (digit_of b) 16 && leb v 0x10FFFF) [
      | true ↦ hex_from (v * 16 + digit_of b) (n + 1) s
      | false ↦ record { value = v; digits = n }
    ]

-- the number whose digits stand at the front of a text, and how many they are
unfoldable pub hex_of : List ℕ → Hex
hex_of s = hex_from 0 0 s
