-- UTF-8 by RFC 3629, over lists of bytes. Every definition is total on every list of numbers.
use Rattle.std.specs.Prelude.{ℕ, zero, suc, ◌+◌, ◌-◌, ◌*◌, List, [], ◌∷◌, Bool, cond, ◌&&◌, ◌||◌, length, get_or, drop, ltb, eqb, Option, Some, None, Result, Ok, Err}

-- The bytes that RFC 3629 allows after the first byte a, by section 4's
--     UTF8-3 = %xE0 %xA0-BF UTF8-tail / %xE1-EC 2( UTF8-tail ) / %xED %x80-9F UTF8-tail / %xEE-EF 2( UTF8-tail )
--     UTF8-4 = %xF0 %x90-BF 2( UTF8-tail ) / %xF1-F3 3( UTF8-tail ) / %xF4 %x80-8F 2( UTF8-tail )
--     UTF8-tail = %x80-BF
-- the least second byte: A0 after E0, 90 after F0 (what is below would be an overlong form), else that of a tail
unfoldable pub low : ℕ → ℕ
low a = cond (eqb a 0xE0) 0xA0 (cond (eqb a 0xF0) 0x90 0x80)

-- the greatest: 9F after ED (what is above would be a surrogate), 8F after F4 (above 10FFFF), else that of a tail
unfoldable pub high : ℕ → ℕ
high a = cond (eqb a 0xED) 0x9F (cond (eqb a 0xF4) 0x8F 0xBF)

-- the code points of two, three and four bytes, by section 3's table: 110xxxxx, 1110xxxx, 11110xxx, and 10xxxxxx for a tail
abbrev pub code2 : ℕ → ℕ → ℕ
code2 a b = (a - 0xC0) * 64 + (b - 0x80)

abbrev pub code3 : ℕ → ℕ → ℕ → ℕ
code3 a b c = (a - 0xE0) * 4096 + (b - 0x80) * 64 + (c - 0x80)

abbrev pub code4 : ℕ → ℕ → ℕ → ℕ → ℕ
code4 a b c d = (a - 0xF0) * 262144 + (b - 0x80) * 4096 + (c - 0x80) * 64 + (d - 0x80)

-- the character that the bytes a b c d start with, whose second byte is from l to h
unfoldable pub lead : ℕ → ℕ → ℕ → ℕ → ℕ → ℕ → Option (ℕ × ℕ)
lead l h a b c d =
    -- UTF8-1 = %x00-7F
    cond (ltb a 0x80) (Some (a, 1))
    -- no form starts with 80 to C1
    (cond (ltb a 0xC2) None
    -- the second byte is too small, or too great
    (cond (ltb b l) None
    (cond (ltb h b) None
    -- UTF8-2 = %xC2-DF UTF8-tail
    (cond (ltb a 0xE0) (Some (code2 a b, 2))
    -- the third is no tail
    (cond (ltb c 0x80) None
    (cond (ltb 0xBF c) None
    -- UTF8-3, which starts with E0 to EF
    (cond (ltb a 0xF0) (Some (code3 a b c, 3))
    -- the fourth is no tail
    (cond (ltb d 0x80) None
    (cond (ltb 0xBF d) None
    -- UTF8-4, which starts with F0 to F4; no form starts with F5 to FF
    (cond (ltb a 0xF5) (Some (code4 a b c d, 4))
    None))))))))))

-- what a list of bytes starts with. Past the end `get_or` gives 0, which is no tail
unfoldable pub sight : List ℕ → Option (ℕ × ℕ)
sight [] = None
sight (a ∷ s) = lead (low a) (high a) a (get_or s 0 0) (get_or s 1 0) (get_or s 2 0)

unfoldable pub sight_at : List ℕ → ℕ → Option (ℕ × ℕ)
sight_at s at = sight (drop at s)

-- UTF8-octets = *( UTF8-char ): the code points of the longest well_formed_lem front, after `k` bytes
unfoldable pub chars_from : ℕ → List ℕ → List ℕ
chars_from k [] = []
chars_from zero (a ∷ s) = elim (sight (a ∷ s)) [ Some (c, w) ↦ c ∷ chars_from (w - 1) s | None ↦ [] ]
chars_from (suc k) (a ∷ s) = chars_from k s

unfoldable pub chars : List ℕ → List ℕ
chars s = chars_from 0 s

-- how many bytes a code point takes: section 3's table, 0000 0000-0000 007F, 0000 0080-0000 07FF, 0000 0800-0000 FFFF, 0001 0000-0010 FFFF
unfoldable pub width_of : ℕ → ℕ
width_of c = cond (ltb c 0x80) 1 (cond (ltb c 0x800) 2 (cond (ltb c 0x10000) 3 4))

-- the place after the characters cs, from the place at
unfoldable pub reach : List ℕ → ℕ → ℕ
reach [] at = at
reach (c ∷ cs) at = reach cs (at + width_of c)

-- "NotUtf8: first byte of the first ill-formed sequence": where reading the front came to, if that is not the end
abbrev pub verdict_at : ℕ → ℕ → Result Unit ℕ
verdict_at p n = cond (eqb p n) (Ok tt) (Err p)

abbrev pub verdict : List ℕ → Result Unit ℕ
verdict s = verdict_at (reach (chars s) 0) (length s)

-- "boundaries (a byte not 128 to 191, or the end)"
abbrev pub boundary : List ℕ → ℕ → Bool
boundary s p = eqb p (length s) || (ltb p (length s) && (ltb (get_or s p 0) 0x80 || ltb 0xBF (get_or s p 0)))
