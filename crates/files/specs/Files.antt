-- What `pack` and `unpack` say: a text's LTK file, and an LTK file's listing.
use Rattle.std.specs.Prelude.{ℕ, Bool, cond, List, [], ◌∷◌, ◌++◌, map, ltb, length, Option, Some, Result, Ok, Err}
use Rattle.record.specs.Numbers.{code_number}
use Rattle.record.specs.Records.{over}
use Rattle.record.specs.declared.Code.TheVariants.{TooLong}
use Rattle.record.specs.declared.Refusal.{Refusal}
use Rattle.record.specs.declared.Token.{Token}
use Rattle.reading.specs.Answers.{start_state}
use Rattle.reading.specs.declared.Outcome.{Outcome}
use Rattle.reading.specs.declared.Outcome.TheVariants.{Ended, Refused, Running}
use Rattle.run.specs.Checked.{ran_of, whole_run}
use Rattle.run.specs.declared.Group.TheVariants.{Five}
use Rattle.ltk.specs.Ltk.{entry_of, read_answer, read_tokens, write_answer, written_bytes}
use Rattle.ltk.specs.declared.Entry.{Entry}
use Rattle.text.specs.Lay.{Laid, lay_all}
use Rattle.text.specs.Lines.{place_line, records_line, refusal_line}
use Rattle.commands.specs.Lists.{header_lines, highest, limit_lines, record_line, refused_lines, room, text_limit}
use Rattle.commands.specs.Parts.{last_part, only_in, part_lines}

-- for people: where an LTK file is refused
unfoldable pub file_lines : List ℕ → Refusal → List (List ℕ)
file_lines name r = name ∷ place_line (code_number r.code) r.place ∷ []

-- ---- the command `pack`
-- nothing is said: the buffer is as it was
abbrev pub silent : List ℕ → Laid
silent d = record { to = Some 0; held = d }

-- the file of records, as the writer answers
abbrev pub came_by : Result ℕ Refusal → Option ℕ
came_by (Ok n) = Some n
came_by (Err r) = Some 0

abbrev pub packed_out : List Entry → List ℕ → Laid
packed_out es d = record { to = came_by (write_answer es (length d)); held = over (written_bytes es (length d)) d }

abbrev pub read_err : List ℕ → Result ℕ Refusal → List (List ℕ)
read_err name (Ok n) = []
read_err name (Err r) = file_lines name r

abbrev pub packed_err : List Entry → ℕ → List ℕ → List ℕ → Laid
packed_err es size name e = lay_all e (Some 0) (read_err name (write_answer es size))

-- a text that is refused has no file
abbrev pub out_by : Outcome → List Token → List ℕ → Laid
out_by (Refused r) ts d = silent d
out_by Ended ts d = packed_out (map entry_of ts) d
out_by Running ts d = packed_out (map entry_of ts) d

abbrev pub err_by : Outcome → List Token → List ℕ → List ℕ → ℕ → List ℕ → Laid
err_by (Refused r) ts name s size e = lay_all e (Some 0) (refused_lines name s r)
err_by Ended ts name s size e = packed_err (map entry_of ts) size name e
err_by Running ts name s size e = packed_err (map entry_of ts) size name e

unfoldable pub pack_out : List ℕ → List ℕ → Laid
pack_out s d =
    cond (ltb text_limit (length s)) (silent d)
    (out_by (ran_of s 0 highest room start_state).how (whole_run s 0 highest room start_state).tokens d)

unfoldable pub pack_err : List ℕ → List ℕ → ℕ → List ℕ → Laid
pack_err name s size e =
    cond (ltb text_limit (length s)) (lay_all e (Some 0) (limit_lines name text_limit))
    (err_by (ran_of s 0 highest room start_state).how (whole_run s 0 highest room start_state).tokens name s size e)

-- ---- the command `unpack`
-- a file of as many records as `pack` can write
abbrev pub file_limit : ℕ
file_limit = 294921

abbrev pub read_lines : Result ℕ Refusal → List Token → List (List ℕ)
read_lines (Ok n) ts = map (record_line Five) ts ++ (records_line n ∷ [])
read_lines (Err r) ts = refusal_line (code_number r.code) r.place ∷ []

unfoldable pub file_listing : List ℕ → List (List ℕ)
file_listing file = read_lines (read_answer file room) (read_tokens file room)

unfoldable pub unpack_out : Bool → List ℕ → List ℕ → List (List ℕ)
unpack_out headed name file =
    header_lines headed name
    ++ cond (ltb file_limit (length file)) (refusal_line (code_number TooLong) 0 ∷ []) (file_listing file)

unfoldable pub unpack_err : List ℕ → List ℕ → List (List ℕ)
unpack_err name file = cond (ltb file_limit (length file)) (limit_lines name file_limit) (read_err name (read_answer file room))

-- ---- in parts, as a text's listing
abbrev pub file_last : Result ℕ Refusal → List ℕ
file_last (Ok n) = records_line n
file_last (Err r) = refusal_line (code_number r.code) r.place

unfoldable pub unpack_tokens : List ℕ → List Token
unpack_tokens file = cond (ltb file_limit (length file)) [] (read_tokens file room)

unfoldable pub unpack_last : List ℕ → List ℕ
unpack_last file = cond (ltb file_limit (length file)) (refusal_line (code_number TooLong) 0) (file_last (read_answer file room))

unfoldable pub unpack_part : ℕ → Bool → List ℕ → List ℕ → List (List ℕ)
unpack_part p headed name file = only_in 0 p (header_lines headed name) ++ part_lines Five p (unpack_tokens file) (unpack_last file)

unfoldable pub unpack_part_err : ℕ → List ℕ → List ℕ → List (List ℕ)
unpack_part_err p name file = only_in (last_part (unpack_tokens file)) p (unpack_err name file)

unfoldable pub unpack_more : ℕ → List ℕ → Bool
unpack_more p file = ltb p (last_part (unpack_tokens file))
