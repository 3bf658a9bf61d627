-- The other way round, by the table of RFC 3629, section 3: the bytes of a code point. No function of the crate encodes;
-- this stands beside the reading (specs/Utf8.antt) so that RoundTrip.antt can say that the two agree.
use Rattle.std.specs.Prelude.{ℕ, ◌+◌, ◌/◌, ◌%◌, List, [], ◌∷◌, ◌++◌, Bool, true, cond, ◌&&◌, ◌||◌, ltb, leb}

-- "0000 0000 to 0010 FFFF", and: "prohibits encoding character numbers between U+D800 and U+DFFF"
unfoldable pub is_scalar : ℕ → Bool
is_scalar c = leb c 0xD7FF || (leb 0xE000 c && leb c 0x10FFFF)

unfoldable pub are_scalars : List ℕ → Bool
are_scalars [] = true
are_scalars (c ∷ cs) = is_scalar c && are_scalars cs

-- 10xxxxxx, with the last six bits of n
abbrev pub tail : ℕ → ℕ
tail n = 0x80 + n % 64

-- 0000 0000-0000 007F | 0xxxxxxx
-- 0000 0080-0000 07FF | 110xxxxx 10xxxxxx
-- 0000 0800-0000 FFFF | 1110xxxx 10xxxxxx 10xxxxxx
-- 0001 0000-0010 FFFF | 11110xxx 10xxxxxx 10xxxxxx 10xxxxxx
unfoldable pub encode : ℕ → List ℕ
encode c =
    cond (ltb c 0x80) (c ∷ [])
    (cond (ltb c 0x800) ((0xC0 + c / 64) ∷ tail c ∷ [])
    (cond (ltb c 0x10000) ((0xE0 + c / 4096) ∷ tail (c / 64) ∷ tail c ∷ [])
    ((0xF0 + c / 262144) ∷ tail (c / 4096) ∷ tail (c / 64) ∷ tail c ∷ [])))

-- the bytes of a text of code points
unfoldable pub encode_all : List ℕ → List ℕ
encode_all [] = []
encode_all (c ∷ cs) = encode c ++ encode_all cs
