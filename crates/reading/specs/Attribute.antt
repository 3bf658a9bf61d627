-- What a hash starts: an attribute; or, if that attempt fails, Hash, with the cursor just after the hash.
use Rattle.std.specs.Prelude.{◌+◌, ◌-◌, ℕ, cond, List, [], ◌∷◌, eqb, ltb, drop, Ok, Err}
use Rattle.utf8.specs.Chars.{'!, '[, '], 'dquote, 'newline}
use Rattle.utf8.specs.Utf8.{width_of}
use Rattle.record.specs.Records.{token_of}
use Rattle.record.specs.declared.Kind.TheVariants.{Hash, ShebangAttribute}
use Rattle.record.specs.declared.Reading.{Reading}
use Rattle.record.specs.declared.Reading.TheVariants.{Kept, Old}
use Rattle.scan.specs.Far.{after}
use Rattle.scan.specs.IfNext.{if_next}
use Rattle.scan.specs.Seek.{string_skip}
use Rattle.scan.specs.Walk.{turn_of, walk}
use Rattle.scan.specs.Shapes.{Skip}
use Rattle.scan.specs.declared.Turn.{Turn}
use Rattle.scan.specs.declared.Turn.TheVariants.{Pass, Stop}
use Rattle.reading.specs.Answers.{more, plain}
use Rattle.reading.specs.Shapes.{Attempt}
use Rattle.reading.specs.declared.Call.{Call}
use Rattle.reading.specs.declared.What.TheVariants.{Got}

-- 01: "Attribute: `#![` to the balancing `]`, strings inside read whole. A newline outside a string, the end, or an unclosed string fails it."
-- with b brackets open: the balancing bracket and a newline stop it; strings are read whole
unfoldable pub attribute_turn : ℕ → ℕ → List ℕ → ℕ → ℕ → Turn
attribute_turn b c cs at next =
    cond (eqb c '[) (Pass next 0 (b + 1))
    (cond (eqb c ']) (cond (ltb b 2) Stop (Pass next 0 (b - 1)))
    (cond (eqb c 'dquote) (turn_of b (string_skip at cs next))
    (cond (eqb c 'newline) Stop (Pass next 0 b))))

abbrev pub attribute_last : ℕ → ℕ → ℕ → Skip
attribute_last b at n = Ok (at, n)

abbrev pub attempt_more : ℕ → Attempt → Attempt
attempt_more n (Ok (p, m)) = Ok (p, n + m)
attempt_more n (Err (p, m)) = Err (p, n + m)

-- where an attempt, closed or failed, got to, and its advances
abbrev pub place_of : Attempt → ℕ
place_of (Ok (p, m)) = p
place_of (Err (p, m)) = p

abbrev pub advances_of : Attempt → ℕ
advances_of (Ok (p, m)) = m
advances_of (Err (p, m)) = m

-- it is closed if it stopped at a bracket
abbrev pub body_by : List ℕ → Skip → Attempt
body_by cs (Ok (p, m)) = if_next '] (drop m cs) (Ok (p + 1, m + 1)) (Err (p, m))
body_by cs (Err (r, p, m)) = Err (p, m)

-- after #![, after #! and after #
unfoldable pub attempt_body : List ℕ → ℕ → Attempt
attempt_body cs at = body_by cs (walk attribute_turn attribute_last 1 cs at)

unfoldable pub attempt_bracket : List ℕ → ℕ → Attempt
attempt_bracket [] at = Err (at, 0)
attempt_bracket (c ∷ cs) at = cond (eqb c '[) (attempt_more 1 (attempt_body cs (at + width_of c))) (Err (at + width_of c, 1))

unfoldable pub attempt : List ℕ → ℕ → Attempt
attempt [] at = Err (at, 0)
attempt (c ∷ cs) at = cond (eqb c '!) (attempt_more 1 (attempt_bracket cs (at + width_of c))) (Err (at + width_of c, 1))

-- ODDITY, where the readings differ. 01: "After success one further character is passed and belongs to no token, if there is one." 02, E5: "nothing is
-- passed after an attribute's bracket". How many characters are passed after an attribute, of the characters cs that follow it:
unfoldable pub dropped : Reading → List ℕ → ℕ
dropped Old [] = 0
dropped Old (c ∷ cs) = 1
dropped Kept cs = 0

-- the attribute from o to p; the characters cs stand at p
unfoldable pub attribute_token : Reading → ℕ → List ℕ → ℕ → Call
attribute_token rd o cs p = record { what = Got (token_of ShebangAttribute o p o p); at = after (dropped rd cs) cs p; advances = dropped rd cs; gap_depth = 0; code_depth = 0 }

-- 01: "if it fails, the cursor returns to just after `#`, `Hash` is delivered, and the attempt's advances stay counted"; "Codes of a failed
-- attempt, 7 too, never show": an attempt carries none. After a hash at o
abbrev pub hash_by : Reading → ℕ → List ℕ → ℕ → Attempt → Call
hash_by rd o cs at (Ok (p, m)) = more m (attribute_token rd o (drop m cs) p)
hash_by rd o cs at (Err (p, m)) = plain Hash o at m

unfoldable pub hash : Reading → ℕ → List ℕ → ℕ → Call
hash rd o cs at = hash_by rd o cs at (attempt cs at)
