use Rattle.table.specs.Table.{absent_kind}
use Rattle.table.proofs.foot_onto.Given as goal

abbrev pub ghost-each_onto : goal.ghost-each_onto
ghost-each_onto a = absent_kind
