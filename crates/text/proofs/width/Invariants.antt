use Rattle.text.specs.DigitLaws.{Counted}
use Rattle.text.proofs.width.Given as goal

abbrev pub invariant-loop-w : goal.invariant-loop-w
invariant-loop-w l = Counted l.n l.m l.w
