-- How the shared records are written: a refusal, a token; and what a lent list holds afterwards.
use Rattle.std.specs.Prelude.{ℕ, ◌+◌, List, ◌++◌, drop, length, Option, Some, None}
use Rattle.record.specs.declared.Kind.{Kind}
use Rattle.record.specs.declared.Code.{Code}
use Rattle.record.specs.declared.Refusal.{Refusal}
use Rattle.record.specs.declared.Token.{Token}

-- 01: "A refusal is a record of its code and its place."
abbrev pub refusal : Code → ℕ → Refusal
refusal code place = record { code = code; place = place }

-- 01: "kind, start, end, payload start, payload end". 02, E4: "a record read from LTK says "not known"": so does every one that is made here
abbrev pub token_of : Kind → ℕ → ℕ → ℕ → ℕ → Token
token_of kind o e from to = record { kind = kind; start = o; end = e; payload_start = from; payload_end = to; gap_depth = None; code_depth = None }

-- the number for what is told: 2^64 - 1 where it is not known
abbrev pub told_number : Option ℕ → ℕ
told_number (Some n) = n
told_number None = 18446744073709551615

-- 01: "Records beyond the count are untouched.": the new elements, and then what the list held beyond them
abbrev pub over : {A : Type 0} → List A → List A → List A
over new old = new ++ drop (length new) old
