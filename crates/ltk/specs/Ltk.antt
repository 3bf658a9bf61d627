-- The LTK file: its image, its tests, and what the reader and the writer answer and leave behind.
use Rattle.std.specs.Prelude.{ℕ, zero, suc, ◌+◌, ◌*◌, ◌/◌, Bool, true, cond, not, ◌||◌, ◌&&◌, List, [], ◌∷◌, ◌++◌, map, ltb, leb, eqb, length, get_or, Option, Some, None, Result, Ok, Err}
use Rattle.utf8.specs.Chars.{'L, 'T, 'K}
use Rattle.record.specs.declared.Kind.{Kind}
use Rattle.record.specs.declared.Kind.TheVariants.{Enum}
use Rattle.record.specs.declared.Code.TheVariants.{TooLong, NoRoom, BadMark, UnknownVersion, BadLength, BadRecord}
use Rattle.record.specs.declared.Token.{Token}
use Rattle.record.specs.Numbers.{kind_number, kind_of}
use Rattle.record.specs.Records.{refusal, token_of}
use Rattle.record.specs.Checks.{text_limit}
use Rattle.ltk.specs.declared.Entry.{Entry}
use Rattle.ltk.specs.Layout.{mark, version, version_place, count_place, header_size, start_place, end_place, last_kind, count_limit, record_place, little, number_at}
use Rattle.record.specs.declared.Refusal.{Refusal}

-- ---- records as the file has them: kind, start, end
abbrev pub entry : ℕ → ℕ → ℕ → Entry
entry kind start end = record { kind = kind; start = start; end = end }

abbrev pub entry_of : Token → Entry
entry_of t = entry (kind_number t.kind) t.start t.end

abbrev pub kind_in : Option Kind → Kind
kind_in (Some k) = k
kind_in None = Enum

-- 01: "payload places equal to start"
abbrev pub token_in : Entry → Token
token_in e = token_of (kind_in (kind_of e.kind)) e.start e.end e.start e.start

-- the same as five numbers, for a list of numbers
abbrev pub numbers_in : Entry → List ℕ
numbers_in e = e.kind ∷ e.start ∷ e.end ∷ e.start ∷ e.start ∷ []

abbrev pub group_size : ℕ
group_size = 5

-- ---- the image of a list of records
-- 01: "9 bytes a token: kind, start, end (32-bit little-endian, no shift)"
unfoldable pub record_bytes : Entry → List ℕ
record_bytes e = little 1 e.kind ++ little 4 e.start ++ little 4 e.end

unfoldable pub header_bytes : ℕ → List ℕ
header_bytes count = mark ++ little 2 version ++ little 4 count

-- what each record gives, one after the other
unfoldable pub flat : (Entry → List ℕ) → List Entry → List ℕ
flat g [] = []
flat g (e ∷ es) = g e ++ flat g es

abbrev pub records_bytes : List Entry → List ℕ
records_bytes es = flat record_bytes es

unfoldable pub image : List Entry → List ℕ
image es = header_bytes (length es) ++ records_bytes es

-- ---- the tests of records
-- 01: "20 for kind above 53, end at or before start, start before the previous end, or end above the text limit"
abbrev pub bad : ℕ → Entry → Bool
bad before e = ltb last_kind e.kind || leb e.end e.start || ltb e.start before || ltb text_limit e.end

-- no record of a list is bad: such a list is never refused for 20
unfoldable pub passing : ℕ → List Entry → Bool
passing before [] = true
passing before (e ∷ es) = not (bad before e) && passing e.end es

abbrev pub records_ok : List Token → Bool
records_ok ts = passing 0 (map entry_of ts)

abbrev pub bad_record : ℕ → Result ℕ Refusal
bad_record i = Err (refusal BadRecord (record_place i))

-- the first bad record of those from index i on, where the one before them ends at `before`; or how many there are
unfoldable pub judged : ℕ → ℕ → List Entry → Result ℕ Refusal
judged i before [] = Ok i
judged i before (e ∷ es) = cond (bad before e) (bad_record i) (judged (i + 1) e.end es)

abbrev pub judge : List Entry → Result ℕ Refusal
judge es = judged 0 0 es

-- ---- the reader
abbrev pub marked : List ℕ → Bool
marked s = eqb (get_or s 0 0) 'L && eqb (get_or s 1 0) 'T && eqb (get_or s 2 0) 'K

abbrev pub count_in : List ℕ → ℕ
count_in s = number_at 4 s count_place

abbrev pub entry_at : List ℕ → ℕ → Entry
entry_at s i = entry (number_at 1 s (record_place i)) (number_at 4 s (record_place i + start_place)) (number_at 4 s (record_place i + end_place))

-- n records, from index i on
unfoldable pub listed : (ℕ → Entry) → ℕ → ℕ → List Entry
listed f i zero = []
listed f i (suc n) = f i ∷ listed f (i + 1) n

abbrev pub entries_of : List ℕ → ℕ → List Entry
entries_of s n = listed (entry_at s) 0 n

abbrev pub entries : List ℕ → List Entry
entries s = entries_of s (count_in s)

-- 01: "17 comes first, for a mark wrong or cut; with fewer than 9 bytes 19 is next. Then 18, then 19 if length isn't
-- 9 + 9 × count, then 20". A mark that is cut differs: past the end `get_or` gives 0
unfoldable pub file_check : List ℕ → Result ℕ Refusal
file_check s =
    cond (marked s)
    (cond (ltb (length s) header_size) (Err (refusal BadLength header_size))
    (cond (eqb (number_at 2 s version_place) version)
    (cond (eqb (length s) (record_place (count_in s))) (judge (entries s)) (Err (refusal BadLength header_size)))
    (Err (refusal UnknownVersion version_place))))
    (Err (refusal BadMark 0))

-- 01: "last, 14 if the list is short"
abbrev pub room_for : ℕ → Result ℕ Refusal → Result ℕ Refusal
room_for room (Ok n) = cond (ltb room n) (Err (refusal NoRoom 0)) (Ok n)
room_for room (Err r) = Err r

unfoldable pub read_answer : List ℕ → ℕ → Result ℕ Refusal
read_answer s room = room_for room (file_check s)

abbrev pub delivered : Result ℕ Refusal → ℕ
delivered (Ok n) = n
delivered (Err r) = 0

-- 01: "Neither writes when it refuses, or beyond its records."
abbrev pub read_entries : List ℕ → ℕ → List Entry
read_entries s room = entries_of s (delivered (read_answer s room))

unfoldable pub read_tokens : List ℕ → ℕ → List Token
read_tokens s room = map token_in (read_entries s room)

unfoldable pub read_numbers : List ℕ → ℕ → List ℕ
read_numbers s room = flat numbers_in (read_entries s room)

-- one record of a file: the one at an index below the count, where its bytes are there and its kind has a name
unfoldable pub record_at : List ℕ → ℕ → Option Token
record_at s i =
    cond (ltb i (count_in s))
    (cond (ltb (length s) (record_place (i + 1))) None
    (cond (ltb last_kind (entry_at s i).kind) None (Some (token_in (entry_at s i)))))
    None

-- ---- the writer
-- 01: "refuses, in this order, 12 for a count of 2^32 or more, 20 (place 9 + 9 × index) by the same tests, 14 for a short buffer"
abbrev pub bytes_for : ℕ → Result ℕ Refusal → Result ℕ Refusal
bytes_for room (Ok n) = cond (ltb room (record_place n)) (Err (refusal NoRoom 0)) (Ok (record_place n))
bytes_for room (Err r) = Err r

unfoldable pub write_answer : List Entry → ℕ → Result ℕ Refusal
write_answer es room = cond (ltb (length es) count_limit) (bytes_for room (judge es)) (Err (refusal TooLong 0))

abbrev pub bytes_by : Result ℕ Refusal → List ℕ → List ℕ
bytes_by (Ok n) bs = bs
bytes_by (Err r) bs = []

unfoldable pub written_bytes : List Entry → ℕ → List ℕ
written_bytes es room = bytes_by (write_answer es room) (image es)

-- the records that a list of numbers holds in groups of five; what is left over at its end is no record
abbrev pub entry_in : List ℕ → ℕ → Entry
entry_in xs i = entry (get_or xs (group_size * i) 0) (get_or xs (group_size * i + 1) 0) (get_or xs (group_size * i + 2) 0)

abbrev pub entries_in : List ℕ → List Entry
entries_in xs = listed (entry_in xs) 0 (length xs / group_size)
