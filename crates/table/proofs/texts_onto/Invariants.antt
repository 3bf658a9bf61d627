use Rattle.table.specs.Table.{error_line}
use Rattle.table.proofs.texts_onto.Given as goal

abbrev pub ghost-each_onto : goal.ghost-each_onto
ghost-each_onto a = error_line
