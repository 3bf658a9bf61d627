-- The readers of strings, block comments and regexes, each a state and a step.
use Rattle.std.specs.Prelude.{◌+◌, ◌-◌, ℕ, Bool, cond, false, true, List, eqb, ltb}
use Rattle.utf8.specs.Chars.{'#, '*, '/, 'backslash, 'dquote}
use Rattle.scan.specs.Until.{until}
use Rattle.scan.specs.declared.Com.{Com}
use Rattle.scan.specs.declared.Com.TheVariants.{Complete, Open, Slash, Star}
use Rattle.scan.specs.Shapes.{Found}
use Rattle.scan.specs.declared.Str.{Str}
use Rattle.scan.specs.declared.Str.TheVariants.{Closed, Escaped, Plain}

-- 01: "Strings end at the first `"` that isn't escaped by a backslash", and a literal goes "to the next unescaped `'`"
abbrev pub str_step : ℕ → Str → ℕ → Str
str_step q Plain c = cond (eqb c 'backslash) Escaped (cond (eqb c q) Closed Plain)
str_step q Escaped c = Plain
str_step q Closed c = Closed

abbrev pub str_done : Str → Bool
str_done Plain = false
str_done Escaped = false
str_done Closed = true

abbrev pub string_end : ℕ → List ℕ → ℕ → Found
string_end q cs at = until (str_step q) str_done Plain cs at 0

-- 01: "nested `/* */`. In `/*/` the slash doesn't close. After a nested open or close, neither its star nor its slash starts another mark."
abbrev pub com_step : Com → ℕ → Com
com_step (Open d) c = cond (eqb c '*) (Star d) (cond (eqb c '/) (Slash d) (Open d))
com_step (Slash d) c = cond (eqb c '*) (Open (d + 1)) (cond (eqb c '/) (Slash d) (Open d))
com_step (Star d) c = cond (eqb c '*) (Star d) (cond (eqb c '/) (cond (ltb d 2) Complete (Open (d - 1))) (Open d))
com_step Complete c = Complete

abbrev pub com_done : Com → Bool
com_done (Open d) = false
com_done (Slash d) = false
com_done (Star d) = false
com_done Complete = true

abbrev pub depth_of : Com → ℕ
depth_of (Open d) = d
depth_of (Slash d) = d
depth_of (Star d) = d
depth_of Complete = 0

abbrev pub comment_end : List ℕ → ℕ → Found
comment_end cs at = until com_step com_done (Open 1) cs at 0

-- 01: "regex, closed by `"` and as many hashes, no escapes". The state is 0 before a quote, and 1 more than the hashes seen straight after it.
abbrev pub reg_step : ℕ → ℕ → ℕ
reg_step st c = cond (eqb st 0) (cond (eqb c 'dquote) 1 0) (cond (eqb c '#) (st + 1) (cond (eqb c 'dquote) 1 0))

abbrev pub reg_done : ℕ → ℕ → Bool
reg_done hashes st = cond (eqb st 0) false (eqb (st - 1) hashes)

abbrev pub regex_end : ℕ → List ℕ → ℕ → Found
regex_end hashes cs at = until reg_step (reg_done hashes) 0 cs at 0
