-- The lines that the programs print, to standard output and, for people, to standard error.
use Rattle.std.specs.Prelude.{ℕ, List, [], ◌∷◌}
use Rattle.text.specs.Bytes.{bytes, join}
use Rattle.text.specs.Digits.{digits}
use Rattle.text.specs.Names.{code_name, kind_name}

-- a record's line, as in 01's listing: start, end and the kind's name
unfoldable pub token_line : ℕ → ℕ → ℕ → List ℕ
token_line kind start end = join (digits start ∷ bytes " " ∷ digits end ∷ bytes " " ∷ kind_name kind ∷ bytes "\n" ∷ [])

-- 02, E4: "`list --depth` adds the two depths to each line": of the gap before the token, and of its code
unfoldable pub depth_line : ℕ → ℕ → ℕ → ℕ → ℕ → List ℕ
depth_line kind start end gap code =
    join (digits start ∷ bytes " " ∷ digits end ∷ bytes " " ∷ kind_name kind ∷ bytes " " ∷ digits gap ∷ bytes " " ∷ digits code ∷ bytes "\n" ∷ [])

-- 01: "end advances 11"
unfoldable pub end_line : ℕ → List ℕ
end_line advances = join (bytes "end advances " ∷ digits advances ∷ bytes "\n" ∷ [])

-- 02, E4: "and the last gap's to the end's"
unfoldable pub end_depth_line : ℕ → ℕ → List ℕ
end_depth_line advances depth = join (bytes "end advances " ∷ digits advances ∷ bytes " depth " ∷ digits depth ∷ bytes "\n" ∷ [])

-- 01: "Its error line is `error NAME at P advances A`."
unfoldable pub error_line : ℕ → ℕ → ℕ → List ℕ
error_line code place advances = join (bytes "error " ∷ code_name code ∷ bytes " at " ∷ digits place ∷ bytes " advances " ∷ digits advances ∷ bytes "\n" ∷ [])

-- an LTK file that is refused
unfoldable pub refusal_line : ℕ → ℕ → List ℕ
refusal_line code place = join (bytes "error " ∷ code_name code ∷ bytes " at " ∷ digits place ∷ bytes "\n" ∷ [])

-- an LTK file that is read
unfoldable pub records_line : ℕ → List ℕ
records_line count = join (bytes "end records " ∷ digits count ∷ bytes "\n" ∷ [])

-- after a file's name, where several are listed
unfoldable pub header_line : List ℕ
header_line = join (bytes ":" ∷ bytes "\n" ∷ [])

-- for people, after a file's name: where its text is refused, and why
unfoldable pub people_line : ℕ → ℕ → ℕ → List ℕ
people_line line column code = join (bytes ":" ∷ digits line ∷ bytes ":" ∷ digits column ∷ bytes ": " ∷ code_name code ∷ bytes "\n" ∷ [])

-- for people, after the name of a file that is longer than the limit
unfoldable pub limit_line : ℕ → ℕ → List ℕ
limit_line code limit = join (bytes ": " ∷ code_name code ∷ bytes " (limit " ∷ digits limit ∷ bytes ")\n" ∷ [])

-- for people, after the name of an LTK file: where it is refused, and why
unfoldable pub place_line : ℕ → ℕ → List ℕ
place_line code place = join (bytes ": " ∷ code_name code ∷ bytes " at " ∷ digits place ∷ bytes "\n" ∷ [])
