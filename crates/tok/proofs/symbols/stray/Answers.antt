use Rattle.reading.specs.Symbols.{stray}
use Rattle.tok.proofs.symbols.stray.Goals as goal

pub returns : goal.returns
unfolding stray
returns c = c.refuse.ensures
