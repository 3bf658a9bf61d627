-- After n calls nothing differed.
use Rattle.asked.specs.Calls.{Called}
use Rattle.asked.proofs.texts.called.Given as goal

abbrev pub invariant-loop-n : goal.invariant-loop-n
invariant-loop-n l = Called l.text l.shift l.recorded l.n l.t
