-- One call (01: "token, error or end"): a gap and then a token, an error or the end. It knows nothing of shift, room or work limit.
use Rattle.std.specs.Prelude.{◌+◌, ℕ, cond, List, [], ◌∷◌, eqb, drop, Ok, Err}
use Rattle.utf8.specs.Chars.{'!, '#, '-, '/, ':, '=, 'at, 'backtick, 'dot, 'dquote, 'quote, 'r, '~}
use Rattle.utf8.specs.Utf8.{width_of}
use Rattle.unicode_xid.specs.Identifier.{is_identifier_start}
use Rattle.record.specs.declared.Reading.{Reading}
use Rattle.scan.specs.Shapes.{Skip}
use Rattle.reading.specs.Answers.{fail, more, told}
use Rattle.reading.specs.Attribute.{hash}
use Rattle.reading.specs.Gaps.{gap, gap_depth_of}
use Rattle.reading.specs.Quotes.{escape, lifetimeish, string_literal}
use Rattle.reading.specs.Regex.{r_word}
use Rattle.reading.specs.Symbols.{bang, colon, dot, equals, half, look, minus, single, singles, stray, tilde}
use Rattle.reading.specs.Words.{identifierish}
use Rattle.reading.specs.declared.Call.{Call}
use Rattle.reading.specs.declared.What.TheVariants.{End}

-- by the first character c at o; the characters cs stand at next
unfoldable pub starts : Reading → ℕ → List ℕ → ℕ → ℕ → Call
starts rd c cs o next =
    cond (eqb c '!) (more 1 (bang o cs next))
    (cond (eqb c ':) (more 1 (colon o cs next))
    (cond (eqb c 'dot) (more 1 (dot o cs next))
    (cond (eqb c '=) (more 1 (equals rd o cs next))
    (cond (eqb c 'at) (more 1 (look o cs next))
    (cond (eqb c '~) (more 1 (tilde o cs next))
    (cond (eqb c 'backtick) (more 1 (escape o cs next))
    (cond (eqb c 'quote) (more 1 (lifetimeish o cs next))
    (cond (eqb c 'dquote) (more 1 (string_literal o cs next))
    (cond (eqb c '/) (more 1 (half o next))
    (cond (eqb c '-) (more 1 (minus o cs next))
    (cond (eqb c 'r) (more 1 (r_word rd (c ∷ cs) o cs next))
    (cond (is_identifier_start c) (more 1 (identifierish rd (c ∷ cs) o cs next)) (stray o)))))))))))))

unfoldable pub token : Reading → ℕ → List ℕ → ℕ → ℕ → Call
token rd c cs o next = cond (eqb c '#) (more 1 (hash rd o cs next)) (single singles c o next (starts rd c cs o next))

unfoldable pub token_or_end : Reading → List ℕ → ℕ → Call
token_or_end rd [] o = record { what = End; at = o; advances = 0; gap_depth = 0; code_depth = 0 }
token_or_end rd (c ∷ cs) o = token rd c cs o (o + width_of c)

-- after a gap whose comments go d deep
abbrev pub next_by : Reading → List ℕ → Skip → ℕ → Call
next_by rd cs (Ok (p, m)) d = told d (more m (token_or_end rd (drop m cs) p))
next_by rd cs (Err (r, p, m)) d = fail r p m

unfoldable pub next : Reading → List ℕ → ℕ → Call
next rd cs at = next_by rd cs (gap cs at) (gap_depth_of cs at)
