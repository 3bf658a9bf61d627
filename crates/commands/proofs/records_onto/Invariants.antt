-- The lines so far, and then those of the records that are left, are the lines of all.
use Rattle.commands.specs.Laws.{Going}
use Rattle.commands.proofs.records_onto.Given as goal

abbrev pub invariant-loop-i : goal.invariant-loop-i
invariant-loop-i l = Going l.group l.initial.out l.initial.came l.count l.records l.out l.came l.i
