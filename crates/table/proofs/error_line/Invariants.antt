use Rattle.text.specs.Names.{code_name}
use Rattle.table.proofs.error_line.Given as goal

abbrev pub ghost-line_indented : goal.ghost-line_indented
ghost-line_indented a = code_name
