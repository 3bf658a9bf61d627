-- 01's section 'Strings', the answer: where the expansion stands, what the buffer holds, and the reader's part.
use Rattle.std.specs.Prelude.{ℕ, ◌+◌, ◌-◌, Bool, cond, ◌&&◌, List, [], ◌++◌, ltb, leb, length, take, drop, Result, Ok, Err}
use Rattle.utf8.specs.Chars.{'backslash}
use Rattle.record.specs.declared.Refusal.{Refusal}
use Rattle.record.specs.declared.Code.TheVariants.{NoRoom, BadRecord}
use Rattle.record.specs.Records.{refusal}
use Rattle.record.specs.Checks.{checks}
use Rattle.escapes.specs.declared.Held.{Held}
use Rattle.escapes.specs.declared.Held.TheVariants.{Text, Buffer}
use Rattle.escapes.specs.declared.Part.{Part}
use Rattle.escapes.specs.Escapes.{Outcome, gives, refused, expand, has_byte}

abbrev pub part : Held → ℕ → ℕ → Part
part held from to = record { held = held; start = from; end = to }

-- what a caller is left with: the answer, and what the buffer holds
pub record Done : Type 0 where
  pub answer : Result Part Refusal
  pub buffer : List ℕ

-- 01's table, of every refusal of an expansion: "nothing written"
abbrev pub refuse : Refusal → List ℕ → Done
refuse r d = record { answer = Err r; buffer = d }

-- 01: "Otherwise the expansion is written from a stated place in the middle of a lent buffer, and the answer is that part;
-- bytes before and after stay."
abbrev pub write : ℕ → List ℕ → List ℕ → Done
write place l d =
    record {
      answer = Ok (part Buffer place (place + length l));
      buffer = take place d ++ (l ++ drop (place + length l) d);
    }

-- 01: "14 exactly if place plus expanded length exceeds the buffer and no other refusal applies"; its place is `idx0`
abbrev pub fit : ℕ → List ℕ → ℕ → Outcome → Done
fit idx0 d place (gives l) = cond (ltb (length d) (place + length l)) (refuse (refusal NoRoom idx0) d) (write place l d)
fit idx0 d place (refused r) = refuse r d

-- 01: "Without a backslash the answer is a part of the given text and the buffer is ignored."
unfoldable pub expanded : List ℕ → ℕ → List ℕ → ℕ → Done
expanded s idx0 d place =
    cond (has_byte 'backslash s) (fit idx0 d place (expand s idx0))
    (record { answer = Ok (part Text 0 (length s)); buffer = d })

-- 01: "Checks go: 12, 13, 11, then reading. The same three checks guard string expansion, with its `idx0` as the shift."
abbrev pub checked : Result Unit Refusal → Done → List ℕ → Done
checked (Ok tt) o d = o
checked (Err r) o d = refuse r d

-- the expansion of a text s, to a place in a buffer d
unfoldable pub applied : List ℕ → ℕ → List ℕ → ℕ → Done
applied s idx0 d place = checked (checks s idx0) (expanded s idx0 d place) d

-- 01: "So the reader's answer is a part of the text or a part of the buffer, empty for a range outside, where its check answers 20."
abbrev pub side : Held → List ℕ → List ℕ → List ℕ
side Text s d = s
side Buffer s d = d

abbrev pub inside : ℕ → ℕ → ℕ → Bool
inside n from to = leb from to && leb to n

unfoldable pub cut : List ℕ → ℕ → ℕ → List ℕ
cut s from to = cond (inside (length s) from to) (take (to - from) (drop from s)) []

abbrev pub part_of : List ℕ → List ℕ → Part → List ℕ
part_of s d p = cut (side p.held s d) p.start p.end

unfoldable pub range_check : ℕ → ℕ → ℕ → Result Unit Refusal
range_check n from to = cond (inside n from to) (Ok tt) (Err (refusal BadRecord 0))

abbrev pub part_check : List ℕ → List ℕ → Part → Result Unit Refusal
part_check s d p = range_check (length (side p.held s d)) p.start p.end
