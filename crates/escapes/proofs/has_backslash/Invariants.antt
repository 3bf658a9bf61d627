use Rattle.std.proofs.Common.{◌≡◌, drop}
use Rattle.std.specs.Prelude.{◌||◌}
use Rattle.utf8.specs.Chars.{'backslash}
use Rattle.escapes.specs.Escapes.{has_byte}
use Rattle.escapes.proofs.has_backslash.Given as goal

-- a backslash was found or is still to come, as in the whole text
abbrev pub invariant-loop-b : goal.invariant-loop-b
invariant-loop-b l = has_byte 'backslash l.s ≡ (l.found || has_byte 'backslash (drop l.b-index l.s))
