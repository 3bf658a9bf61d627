-- All before the place pass.
use Rattle.std.proofs.Common.{◌≡◌, ◌+◌, drop}
use Rattle.property.specs.Lines.{front}
use Rattle.property.proofs.line.front.Given as goal

abbrev pub invariant-loop-i : goal.invariant-loop-i
invariant-loop-i l = l.i + front l.b l.same (drop l.i l.s) ≡ front l.b l.same l.s
