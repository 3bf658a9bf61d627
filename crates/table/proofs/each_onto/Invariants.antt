use Rattle.table.specs.Laws.{Going}
use Rattle.table.proofs.each_onto.Given as goal

abbrev pub invariant-loop-i : goal.invariant-loop-i
invariant-loop-i g l = Going g.said l.first l.counts l.initial.out l.initial.came l.out l.came l.i
