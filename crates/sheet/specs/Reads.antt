-- A text, call by call, as the code takes it: what a call answers, and what it enters.
use Rattle.std.specs.Prelude.{ℕ, false, true, List, length}
use Rattle.record.specs.declared.Token.{Token}
use Rattle.record.specs.declared.Reading.TheVariants.{Old}
use Rattle.scan.specs.Until.{left}
use Rattle.reading.specs.Run.{step}
use Rattle.reading.specs.declared.Outcome.TheVariants.{Ended, Refused, Running}
use Rattle.reading.specs.declared.Stepped.{Stepped}
use Rattle.reading.specs.declared.Tokenizer.{Tokenizer}
use Rattle.reading.specs.declared.What.{What}
use Rattle.reading.specs.declared.What.TheVariants.{End, Error, Got}
use Rattle.run.specs.Pending.{running}
use Rattle.sheet.specs.Adds.{between, drops, fails, gap_entered, token_depth, token_entered, work_limit}
use Rattle.sheet.specs.declared.Part.{Part}
use Rattle.sheet.specs.declared.Read.{Read}

-- what a token adds besides one of its kind
unfoldable pub part_of : List ℕ → Token → Part
part_of s t = record { width = length (between s t.start t.end); dropped = drops s t; failed = fails (left s t.start) t.start }

-- the call at a place, after so many advances
unfoldable pub call_of : List ℕ → ℕ → ℕ → Stepped
call_of s at count = step s 0 work_limit (running Old at count)

-- where it leads, or how the text ends, and how deep the comments go that it read; those of an error are not told
abbrev pub read_by : What → Tokenizer → ℕ → Read
read_by (Got t) u g = record { going = true; at = u.at; advances = u.count; deep = token_depth t; how = Running }
read_by (Error r) u g = record { going = false; at = 0; advances = u.count; deep = 0; how = Refused r }
read_by End u g = record { going = false; at = 0; advances = u.count; deep = g; how = Ended }

unfoldable pub read_of : List ℕ → ℕ → ℕ → Read
read_of s at count = read_by (call_of s at count).what (call_of s at count).next (call_of s at count).gap_depth

-- what it enters: an error nothing
abbrev pub row_by : List ℕ → ℕ → What → List ℕ → List ℕ
row_by s at (Got t) row = token_entered s t (gap_entered (between s at t.start) row)
row_by s at (Error r) row = row
row_by s at End row = gap_entered (left s at) row

unfoldable pub row_of : List ℕ → ℕ → ℕ → List ℕ → List ℕ
row_of s at count row = row_by s at (call_of s at count).what row
