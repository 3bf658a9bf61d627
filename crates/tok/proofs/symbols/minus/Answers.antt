use Rattle.std.proofs.Common.{ap, ◌∙◌}
use Rattle.scan.specs.IfNext.{if_next}
use Rattle.reading.specs.Symbols.{minus}
use Rattle.tok.proofs.symbols.minus.Goals as goal

pub returns : goal.returns
unfolding minus
returns c = c.mark.ensures ∙ ap (if_next _ _ _) c.half.ensures
