use Rattle.std.proofs.Common.{◌≡◌, true, drop}
use Rattle.utf8.specs.Utf8.{chars, reach}
use Rattle.utf8.proofs.ascii.Given as goal

abbrev pub invariant-loop-b : goal.invariant-loop-b
invariant-loop-b l = l.m ≡ true → reach (chars (drop l.b-index l.s)) l.b-index ≡ reach (chars l.s) 0
