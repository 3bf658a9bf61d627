use Rattle.text.specs.Names.{kind_name}
use Rattle.table.proofs.kind_line.Given as goal

abbrev pub ghost-line_indented : goal.ghost-line_indented
ghost-line_indented a = kind_name
