use Rattle.reading.specs.Symbols.{half}
use Rattle.tok.proofs.symbols.half.Goals as goal

pub returns : goal.returns
unfolding half
returns c = c.refuse.ensures
