use Rattle.std.proofs.Common.{ap, ◌∙◌}
use Rattle.scan.specs.IfNext.{if_next}
use Rattle.reading.specs.Symbols.{arrow_look}
use Rattle.tok.proofs.symbols.arrow_look.Goals as goal

pub returns : goal.returns
unfolding arrow_look
returns c = c.mark.ensures ∙ ap (if_next _ _ _) (c.mark-other.ensures ∙ ap (if_next _ _ _) c.half.ensures)
