-- A listing in parts that fit a buffer: the header in the first, as many records in each, the last line in the last; after that, nothing.
use Rattle.std.specs.Prelude.{ℕ, zero, suc, ◌*◌, ◌-◌, ◌/◌, Bool, cond, List, [], ◌∷◌, ◌++◌, map, eqb, ltb, drop, length, take}
use Rattle.record.specs.Numbers.{code_number}
use Rattle.record.specs.declared.Code.TheVariants.{TooLong}
use Rattle.record.specs.declared.Reading.{Reading}
use Rattle.record.specs.declared.Token.{Token}
use Rattle.reading.specs.Answers.{start_in}
use Rattle.run.specs.Checked.{ran_of, whole_run}
use Rattle.run.specs.Numbers.{size_of}
use Rattle.run.specs.declared.Group.{Group}
use Rattle.text.specs.Lines.{error_line}
use Rattle.commands.specs.Lists.{header_lines, highest, list_err, number_lines, ran_line, record_line, room, text_limit}

-- so many records stand in a part
abbrev pub chunk : ℕ
chunk = 8192

-- the number of the last part
abbrev pub last_part : List Token → ℕ
last_part ts = length ts / chunk

-- lines that part k says, and no other
unfoldable pub only_in : ℕ → ℕ → List (List ℕ) → List (List ℕ)
only_in k p ls = cond (eqb p k) ls []

-- part p of the lines of records and of a last line
unfoldable pub part_lines : Group → ℕ → List Token → List ℕ → List (List ℕ)
part_lines g p ts last = map (record_line g) (take chunk (drop (chunk * p) ts)) ++ only_in (last_part ts) p (last ∷ [])

-- the parts before part k, one after another
unfoldable pub first_parts : ℕ → (ℕ → List (List ℕ)) → List (List ℕ)
first_parts zero part = []
first_parts (suc k) part = first_parts k part ++ part k

-- ---- the command `list`
abbrev pub run_tokens : Reading → List ℕ → List Token
run_tokens rd s = (whole_run s 0 highest room (start_in rd)).tokens

abbrev pub run_last : Reading → Group → List ℕ → List ℕ
run_last rd g s = ran_line g (ran_of s 0 highest room (start_in rd))

-- a text that is too long has no records
unfoldable pub list_tokens : Reading → List ℕ → List Token
list_tokens rd s = cond (ltb text_limit (length s)) [] (run_tokens rd s)

unfoldable pub list_last : Reading → Group → List ℕ → List ℕ
list_last rd g s = cond (ltb text_limit (length s)) (error_line (code_number TooLong) 0 0) (run_last rd g s)

unfoldable pub list_part : Reading → Group → ℕ → Bool → List ℕ → List ℕ → List (List ℕ)
list_part rd g p headed name s = only_in 0 p (header_lines headed name) ++ part_lines g p (list_tokens rd s) (list_last rd g s)

-- for people, in the last part
unfoldable pub list_part_err : Reading → ℕ → List ℕ → List ℕ → List (List ℕ)
list_part_err rd p name s = only_in (last_part (list_tokens rd s)) p (list_err rd name s)

-- whether a part follows
unfoldable pub list_more : Reading → ℕ → List ℕ → Bool
list_more rd p s = ltb p (last_part (list_tokens rd s))

-- ---- a part of n records as the code has them: groups of numbers
unfoldable pub chunk_lines : Group → ℕ → ℕ → List ℕ → List (List ℕ)
chunk_lines g p n l = number_lines g (cond (ltb chunk (n - chunk * p)) chunk (n - chunk * p)) (drop (size_of g * (chunk * p)) l)

-- none where there are fewer numbers than the records take
unfoldable pub held_lines : Group → ℕ → ℕ → List ℕ → List (List ℕ)
held_lines g p n l = cond (ltb (length l / size_of g) n) [] (chunk_lines g p n l)
