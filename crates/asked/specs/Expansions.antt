-- A text, expanded into a painted buffer.
use Rattle.std.specs.Prelude.{◌+◌, ℕ, cond, List, [], ◌∷◌, eqb, ltb, drop, get_or, replicate, take, Result, Ok, Err}
use Rattle.record.specs.Numbers.{code_number}
use Rattle.escapes.specs.Answers.{Done, applied, part_check, part_of}
use Rattle.escapes.specs.declared.Held.{Held}
use Rattle.escapes.specs.declared.Held.TheVariants.{Buffer, Text}
use Rattle.escapes.specs.declared.Part.{Part}
use Rattle.recorded.specs.declared.Difference.{Difference}
use Rattle.recorded.specs.declared.Difference.TheVariants.{Length}
use Rattle.asked.specs.Answers.{answer_differs}
use Rattle.record.specs.declared.Refusal.{Refusal}

-- the most bytes of a buffer
abbrev pub most_room : ℕ
most_room = 4096

-- no text has this byte, so no expansion has it
abbrev pub paint : ℕ
paint = 255

-- how many bytes of a buffer are not paint
unfoldable pub written : List ℕ → ℕ
written [] = 0
written (b ∷ bs) = cond (eqb b paint) 0 1 + written bs

-- where an expansion stands: 1 in the text, 2 in the buffer; 3 where its range is refused
abbrev pub side_number : Held → ℕ
side_number Text = 1
side_number Buffer = 2

abbrev pub stands_by : Result Unit Refusal → Part → ℕ
stands_by (Ok tt) p = side_number p.held
stands_by (Err r) p = 3

-- code, place of the refusal, where the expansion stands, start, end, bytes written; then the bytes of the expansion
unfoldable pub expanded_by : List ℕ → List ℕ → List ℕ → Result Part Refusal → Difference
expanded_by s recorded d (Err r) = answer_differs 6 recorded (code_number r.code ∷ r.place ∷ 0 ∷ 0 ∷ 0 ∷ written d ∷ []) []
expanded_by s recorded d (Ok p) =
    answer_differs 6 recorded (0 ∷ 0 ∷ stands_by (part_check s d p) p ∷ p.start ∷ p.end ∷ written d ∷ []) (part_of s d p)

-- the text is expanded into a buffer d from a place on
abbrev pub expand_differs : List ℕ → List ℕ → Done → Difference
expand_differs s recorded o = expanded_by s recorded o.buffer o.answer

-- asked are idx0, the place in the buffer and the buffer's length; the answer is recorded after them
unfoldable pub expanded_differs : List ℕ → List ℕ → Difference
expanded_differs s recorded =
    cond (ltb most_room (get_or recorded 2 0)) (Length (get_or recorded 2 0) most_room)
    (expand_differs s (drop 3 recorded) (applied s (get_or recorded 0 0) (take (get_or recorded 2 0) (replicate most_room paint)) (get_or recorded 1 0)))
