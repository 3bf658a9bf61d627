use Rattle.table.specs.Table.{kind_line}
use Rattle.table.proofs.kinds_onto.Given as goal

-- the total that the closure holds
abbrev pub ghost-each_onto : goal.ghost-each_onto
ghost-each_onto a = kind_line a.one.0.now
