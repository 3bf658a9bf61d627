-- The pieces so far, and then those of the numbers that are left, are the pieces of all.
use Rattle.shown.proofs.Going.{Going}
use Rattle.shown.proofs.page.numbers.Given as goal

abbrev pub invariant-loop-i : goal.invariant-loop-i
invariant-loop-i l = Going l.fn.out l.fn.from l.page l.out l.came l.i
