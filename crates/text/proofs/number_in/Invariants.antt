use Rattle.text.specs.Stores.{Writing}
use Rattle.text.proofs.number_in.Given as goal

abbrev pub invariant-loop-i : goal.invariant-loop-i
invariant-loop-i l = Writing l.initial.out l.at l.n l.out l.i l.m
