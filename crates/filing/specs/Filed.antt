-- WHAT THE COMMAND `sheet` MAKES OF A FILE. The request for it: "a line on standard error for each file that was refused, with its place. A file may have up to 1 MiB
-- (more: 12, said with the limit)".
use Rattle.std.specs.Prelude.{ℕ, Bool, true, false, cond, List, [], ◌∷◌, ltb, length}
use Rattle.record.specs.Numbers.{code_number}
use Rattle.record.specs.declared.Refusal.{Refusal}
use Rattle.text.specs.Lines.{place_line}
use Rattle.commands.specs.Lists.{limit_lines, refused_lines}
use Rattle.sheet.specs.Sheet.{held, taken}
use Rattle.sheet.specs.declared.Taken.{Taken}
use Rattle.sheet.specs.declared.Taken.TheVariants.{Refused, Tallied, Whole}

abbrev pub file_limit : ℕ
file_limit = 1048576

-- a refusal of the text (11, 12) has a line and a column; one of the sheet (14, 20, 21) has none
unfoldable pub refusal_lines : List ℕ → List ℕ → Refusal → List (List ℕ)
refusal_lines name s r = cond (ltb 12 (code_number r.code)) (name ∷ place_line (code_number r.code) r.place ∷ []) (refused_lines name s r)

-- for people: an error that was tallied is said too
abbrev pub taken_lines : List ℕ → List ℕ → Taken → List (List ℕ)
taken_lines name s Whole = []
taken_lines name s (Tallied r) = refused_lines name s r
taken_lines name s (Refused r) = refusal_lines name s r

abbrev pub is_refused : Taken → Bool
is_refused Whole = false
is_refused (Tallied r) = false
is_refused (Refused r) = true

-- a file that is too long is not read: it is refused, and the sheet stays as it is
unfoldable pub filed_lines : List ℕ → List ℕ → List ℕ → List (List ℕ)
filed_lines name s sheet = cond (ltb file_limit (length s)) (limit_lines name file_limit) (taken_lines name s (taken s sheet))

unfoldable pub filed_refused : List ℕ → List ℕ → Bool
filed_refused s sheet = cond (ltb file_limit (length s)) true (is_refused (taken s sheet))

unfoldable pub filed_sheet : List ℕ → List ℕ → List ℕ
filed_sheet s sheet = cond (ltb file_limit (length s)) sheet (held s sheet)
