-- What the command `list` says: the lines for standard output and, for people, for standard error.
use Rattle.std.specs.Prelude.{ℕ, zero, suc, ◌+◌, Bool, cond, List, [], ◌∷◌, ◌++◌, map, ◌≡◌, ltb, drop, get_or, length, Option}
use Rattle.record.specs.Numbers.{code_number, kind_number}
use Rattle.record.specs.Records.{told_number}
use Rattle.record.specs.declared.Code.TheVariants.{TooLong}
use Rattle.record.specs.declared.Reading.{Reading}
use Rattle.record.specs.declared.Refusal.{Refusal}
use Rattle.record.specs.declared.Token.{Token}
use Rattle.reading.specs.Answers.{start_in}
use Rattle.reading.specs.declared.Outcome.{Outcome}
use Rattle.reading.specs.declared.Outcome.TheVariants.{Ended, Refused, Running}
use Rattle.run.specs.Checked.{ran_of, whole_run}
use Rattle.run.specs.Numbers.{size_of}
use Rattle.run.specs.declared.Group.{Group}
use Rattle.run.specs.declared.Group.TheVariants.{Five, Nine}
use Rattle.run.specs.declared.Ran.{Ran}
use Rattle.place.specs.Place.{line_column}
use Rattle.text.specs.Lay.{Laid}
use Rattle.text.specs.Lines.{depth_line, end_depth_line, end_line, error_line, header_line, limit_line, people_line, token_line}

-- 01: "The listing program reads standard input up to 32,768 bytes (more: 12)."
abbrev pub text_limit : ℕ
text_limit = 32768

-- 01: "Shift 0, highest work limit."
abbrev pub highest : ℕ
highest = 18446744073709551615

-- a token takes at least one byte, so there is room for all
abbrev pub room : ℕ
room = text_limit

-- of five numbers 01's line; 02, E4: of nine "`list --depth` adds the two depths to each line"
abbrev pub record_line : Group → Token → List ℕ
record_line Five t = token_line (kind_number t.kind) t.start t.end
record_line Nine t = depth_line (kind_number t.kind) t.start t.end (told_number t.gap_depth) (told_number t.code_depth)

-- "and the last gap's to the end's"
abbrev pub final_line : Group → ℕ → ℕ → List ℕ
final_line Five advances depth = end_line advances
final_line Nine advances depth = end_depth_line advances depth

abbrev pub last_line : Group → Outcome → ℕ → ℕ → List ℕ
last_line g (Refused r) advances depth = error_line (code_number r.code) r.place advances
last_line g Ended advances depth = final_line g advances depth
last_line g Running advances depth = final_line g advances depth

abbrev pub ran_line : Group → Ran → List ℕ
ran_line g r = last_line g r.how r.advances r.last_depth

-- the listing of a text in a reading, line by line; in the old one, of five numbers, 01's
unfoldable pub run_lines : Reading → Group → List ℕ → List (List ℕ)
run_lines rd g s = map (record_line g) (whole_run s 0 highest room (start_in rd)).tokens ++ (ran_line g (ran_of s 0 highest room (start_in rd)) ∷ [])

unfoldable pub listing : Reading → Group → List ℕ → List (List ℕ)
listing rd g s = cond (ltb text_limit (length s)) (error_line (code_number TooLong) 0 0 ∷ []) (run_lines rd g s)

-- where several files are listed, each stands under its name
unfoldable pub header_lines : Bool → List ℕ → List (List ℕ)
header_lines headed name = cond headed (name ∷ header_line ∷ []) []

-- for people: `FILE:LINE:COLUMN: NAME`, "counted from 1 as compilers do, in characters' UTF-16 units: one more than the reporter says; for a text
-- that is refused with 11 it is asked about the well_formed_lem beginning"
unfoldable pub refused_lines : List ℕ → List ℕ → Refusal → List (List ℕ)
refused_lines name s r = name ∷ people_line ((line_column s r.place).line + 1) ((line_column s r.place).column + 1) (code_number r.code) ∷ []

abbrev pub people_lines : List ℕ → List ℕ → Outcome → List (List ℕ)
people_lines name s (Refused r) = refused_lines name s r
people_lines name s Ended = []
people_lines name s Running = []

-- for people: a file is longer than the limit
unfoldable pub limit_lines : List ℕ → ℕ → List (List ℕ)
limit_lines name limit = name ∷ limit_line (code_number TooLong) limit ∷ []

-- what a command leaves: for each output how far its bytes came, and what its buffer holds
pub record Left (out err : Laid) (to : Option ℕ) (held : List ℕ) (to' : Option ℕ) (held' : List ℕ) : Type 0 where
  pub out_to : to ≡ out.to
  pub out_held : held ≡ out.held
  pub err-to : to' ≡ err.to
  pub err-held : held' ≡ err.held

-- ---- the command `list`
unfoldable pub list_out : Reading → Group → Bool → List ℕ → List ℕ → List (List ℕ)
list_out rd g headed name s = header_lines headed name ++ listing rd g s

unfoldable pub list_err : Reading → List ℕ → List ℕ → List (List ℕ)
list_err rd name s = cond (ltb text_limit (length s)) (limit_lines name text_limit) (people_lines name s (ran_of s 0 highest room (start_in rd)).how)

-- ---- records as the code has them: groups of numbers
abbrev pub number_line : Group → List ℕ → List ℕ
number_line Five l = token_line (get_or l 0 0) (get_or l 1 0) (get_or l 2 0)
number_line Nine l = depth_line (get_or l 0 0) (get_or l 1 0) (get_or l 2 0) (get_or l 5 0) (get_or l 6 0)

unfoldable pub number_lines : Group → ℕ → List ℕ → List (List ℕ)
number_lines g zero l = []
number_lines g (suc n) l = number_line g l ∷ number_lines g n (drop (size_of g) l)
