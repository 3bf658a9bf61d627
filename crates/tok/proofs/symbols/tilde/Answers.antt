use Rattle.std.proofs.Common.{ap, ◌∙◌}
use Rattle.scan.specs.IfNext.{if_next}
use Rattle.reading.specs.Symbols.{tilde}
use Rattle.tok.proofs.symbols.tilde.Goals as goal

pub returns : goal.returns
unfolding tilde
returns c = c.mark.ensures ∙ ap (if_next _ _ _) c.half.ensures
