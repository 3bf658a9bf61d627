use Rattle.commands.specs.Laws.{lay-two}
use Rattle.files.specs.Files.{file_lines}
use Rattle.files.proofs.file_onto.Goals as goal

pub returns : goal.returns
unfolding file_lines
returns c = lay-two _ _ _ _ _ _ _ _ c.put-named.ensures (rw c.number_of.ensures at c.place_line.ensures)
