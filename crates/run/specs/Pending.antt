-- A run, turn by turn, as the code takes it: a token that is read and not stored yet, or the end of the run.
use Rattle.std.specs.Prelude.{ℕ, Bool, Some, None, is_some, ◌+◌, true, false, cond, List, ◌≡◌, ltb, Result, Ok, Err}
use Rattle.std.proofs.Common.{ap}
use Rattle.utf8.specs.Utf8.{boundary}
use Rattle.record.specs.Checks.{checks}
use Rattle.record.specs.Records.{refusal, token_of}
use Rattle.record.specs.declared.Code.TheVariants.{BadRecord, NoRoom}
use Rattle.record.specs.declared.Kind.TheVariants.{Enum}
use Rattle.record.specs.declared.Reading.{Reading}
use Rattle.record.specs.declared.Token.{Token}
use Rattle.reading.specs.Run.{step}
use Rattle.reading.specs.declared.Outcome.{Outcome}
use Rattle.reading.specs.declared.Outcome.TheVariants.{Ended, Refused, Running}
use Rattle.reading.specs.declared.Tokenizer.{Tokenizer}
use Rattle.reading.specs.declared.What.{What}
use Rattle.reading.specs.declared.What.TheVariants.{End, Error, Got}
use Rattle.run.specs.declared.Pending.{Pending}
use Rattle.record.specs.declared.Refusal.{Refusal}

-- a tokenizer that runs
abbrev pub running : Reading → ℕ → ℕ → Tokenizer
running rd at count = record { at = at; count = count; done = Running; reading = rd }

pub runs_as : (t : Tokenizer) → t.done ≡ Running → t ≡ running t.reading t.at t.count
runs_as t d = ap (λ (o : Outcome). record { at = t.at; count = t.count; done = o; reading = t.reading }) d

abbrev pub no_token : Token
no_token = token_of Enum 0 0 0 0

-- whether a token is pending, and which
abbrev pub is_going : Pending → Bool
is_going p = is_some p.token

abbrev pub taken : Pending → Token
taken p = elim p.token [ Some x ↦ x | None ↦ no_token ]

-- the run stops, with n tokens stored, at the tokenizer t
abbrev pub halted : ℕ → Outcome → ℕ → Tokenizer → Pending
halted n how count t = record { token = None; ran = record { stored = n; how = how; advances = count; state = t; last_depth = 0 } }

-- the run reaches the end, after a gap whose comments go g deep
abbrev pub ended : ℕ → Tokenizer → ℕ → Pending
ended n t g = record { token = None; ran = record { stored = n; how = Ended; advances = t.count; state = t; last_depth = g } }

-- a token is to be stored after n others; then the tokenizer is t
abbrev pub goes : ℕ → Token → Tokenizer → Pending
goes n x t = record { token = Some x; ran = record { stored = n; how = Running; advances = t.count; state = t; last_depth = 0 } }

-- the tokenizer t before the call, u after it, and g deep the gap's comments
abbrev pub pend_by : What → ℕ → ℕ → Tokenizer → Tokenizer → ℕ → Pending
pend_by (Got x) room n t u g = cond (ltb n room) (goes n x u) (halted n (Refused (refusal NoRoom x.start)) t.count t)
pend_by (Error r) room n t u g = halted n (Refused r) u.count u
pend_by End room n t u g = ended n u g

unfoldable pub pend_of : List ℕ → ℕ → ℕ → ℕ → ℕ → Tokenizer → Pending
pend_of s shift limit room n t = pend_by (step s shift limit t).what room n t (step s shift limit t).next (step s shift limit t).gap_depth

abbrev pub begin_if : Result Unit Refusal → List ℕ → ℕ → ℕ → ℕ → Tokenizer → Pending
begin_if (Ok tt) s shift limit room t = cond (boundary s t.at) (pend_of s shift limit room 0 t) (halted 0 (Refused (refusal BadRecord 0)) t.count t)
begin_if (Err r) s shift limit room t = halted 0 (Refused r) 0 t

unfoldable pub begin_of : List ℕ → ℕ → ℕ → ℕ → Tokenizer → Pending
begin_of s shift limit room t = begin_if (checks s shift) s shift limit room t

unfoldable pub advance_of : List ℕ → ℕ → ℕ → ℕ → Pending → Pending
advance_of s shift limit room p = pend_of s shift limit room (p.ran.stored + 1) p.ran.state
