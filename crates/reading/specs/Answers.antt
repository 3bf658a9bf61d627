-- How an answer is made. A token record is made here and nowhere else.
use Rattle.std.specs.Prelude.{◌+◌, ℕ, Some}
use Rattle.record.specs.Records.{refusal, token_of}
use Rattle.record.specs.declared.Code.{Code}
use Rattle.record.specs.declared.Kind.{Kind}
use Rattle.record.specs.declared.Refusal.{Refusal}
use Rattle.record.specs.declared.Token.{Token}
use Rattle.record.specs.declared.Reading.{Reading}
use Rattle.record.specs.declared.Reading.TheVariants.{Old}
use Rattle.reading.specs.declared.Call.{Call}
use Rattle.reading.specs.declared.Outcome.TheVariants.{Running}
use Rattle.reading.specs.declared.Tokenizer.{Tokenizer}
use Rattle.reading.specs.declared.What.{What}
use Rattle.reading.specs.declared.What.TheVariants.{End, Error, Got}

-- a token that ends at the cursor p, after n advances
unfoldable pub deliver : Kind → ℕ → ℕ → ℕ → ℕ → ℕ → Call
deliver kind o from to p n = record { what = Got (token_of kind o p from to); at = p; advances = n; gap_depth = 0; code_depth = 0 }

-- a token without a payload: both payload places equal its start
unfoldable pub plain : Kind → ℕ → ℕ → ℕ → Call
plain kind o p n = deliver kind o o o p n

-- an error, with the cursor at p after n advances
abbrev pub fail : Refusal → ℕ → ℕ → Call
fail r p n = record { what = Error r; at = p; advances = n; gap_depth = 0; code_depth = 0 }

-- a refusal, with the cursor at p after n advances
unfoldable pub refuse : Code → ℕ → ℕ → ℕ → Call
refuse code place p n = fail (refusal code place) p n

-- the same call with n advances before it
unfoldable pub more : ℕ → Call → Call
more n x = record { what = x.what; at = x.at; advances = n + x.advances; gap_depth = x.gap_depth; code_depth = x.code_depth }

-- the same call, whose code has comments d deep
abbrev pub coded : ℕ → Call → Call
coded d x = record { what = x.what; at = x.at; advances = x.advances; gap_depth = x.gap_depth; code_depth = d }

-- 02, E4: "a record keeps two, for the gap before it and for its code"
abbrev pub told_token : ℕ → ℕ → Token → Token
told_token g d t = record {
  kind = t.kind;
  start = t.start;
  end = t.end;
  payload_start = t.payload_start;
  payload_end = t.payload_end;
  gap_depth = Some g;
  code_depth = Some d;
}

abbrev pub told_what : ℕ → ℕ → What → What
told_what g d (Got t) = Got (told_token g d t)
told_what g d (Error r) = Error r
told_what g d End = End

-- the same call after a gap with comments g deep
unfoldable pub told : ℕ → Call → Call
told g x = record { what = told_what g x.code_depth x.what; at = x.at; advances = x.advances; gap_depth = g; code_depth = x.code_depth }

-- where a run starts, in a reading, and in 01's
abbrev pub start_in : Reading → Tokenizer
start_in rd = record { at = 0; count = 0; done = Running; reading = rd }

abbrev pub start_state : Tokenizer
start_state = start_in Old
