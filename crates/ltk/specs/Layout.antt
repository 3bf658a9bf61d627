-- The layout of an LTK file: named here, and in the constants of src/layout.rt, and nowhere else.
use Rattle.std.specs.Prelude.{ℕ, zero, suc, ◌+◌, ◌*◌, ◌/◌, ◌%◌, List, [], ◌∷◌, ◌++◌, get_or}
use Rattle.utf8.specs.Chars.{'L, 'T, 'K}

-- 01: "bytes `LTK`, version as 16-bit little-endian 1, count as 32-bit little-endian, then 9 bytes a token"
abbrev pub mark : List ℕ
mark = 'L ∷ 'T ∷ 'K ∷ []

abbrev pub version : ℕ
version = 1

abbrev pub version_place : ℕ
version_place = 3

abbrev pub count_place : ℕ
count_place = 5

abbrev pub header_size : ℕ
header_size = 9

abbrev pub record_size : ℕ
record_size = 9

-- where a record's start and end stand in it, after its kind
abbrev pub start_place : ℕ
start_place = 1

abbrev pub end_place : ℕ
end_place = 5

-- 01: "Kinds number 0 to 53"
abbrev pub last_kind : ℕ
last_kind = 53

-- a count is below this
abbrev pub count_limit : ℕ
count_limit = 4294967296

-- 2^58: the place of a record at an index below this fits a machine number, and no list in memory has more records
abbrev pub index_limit : ℕ
index_limit = 288230376151711744

-- where a record starts; with the number of all records, where the file ends
abbrev pub record_place : ℕ → ℕ
record_place i = header_size + record_size * i

-- a number as k bytes, the little end first
unfoldable pub little : ℕ → ℕ → List ℕ
little zero n = []
little (suc k) n = n % 256 ∷ little k (n / 256)

-- the number of the k bytes at a place, the little end first; past the end `get_or` gives 0
unfoldable pub number_at : ℕ → List ℕ → ℕ → ℕ
number_at zero s p = 0
number_at (suc k) s p = get_or s p 0 + 256 * number_at k s (p + 1)
