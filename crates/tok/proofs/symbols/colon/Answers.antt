use Rattle.std.proofs.Common.{ap, ◌∙◌}
use Rattle.scan.specs.IfNext.{if_next}
use Rattle.reading.specs.Symbols.{colon}
use Rattle.tok.proofs.symbols.colon.Goals as goal

pub returns : goal.returns
unfolding colon
returns c = c.mark.ensures ∙ ap (if_next _ _ _) c.plain.ensures
