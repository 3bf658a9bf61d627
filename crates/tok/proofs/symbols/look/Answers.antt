use Rattle.std.proofs.Common.{ap, ◌∙◌}
use Rattle.scan.specs.IfNext.{if_next}
use Rattle.reading.specs.Symbols.{look}
use Rattle.tok.proofs.symbols.look.Goals as goal

pub returns : goal.returns
unfolding look
returns c = c.mark.ensures ∙ ap (if_next _ _ _) (c.mark-other.ensures ∙ ap (if_next _ _ _) c.half.ensures)
