use Rattle.std.proofs.Common.{arith}
use Rattle.sheet.specs.Adds.{enter}
use Rattle.sheet.specs.Laws.{entered-fits, enter-fits}
use Rattle.sheet.proofs.alone.gap_onto.Goals as goal

pub enter-requires-2 : goal.enter-requires-2
enter-requires-2 c = let p = c.requires in let h = entered-fits 55 _ c.enter.ensures p.1 p.0 in enter-fits 56 _ h.0 (omega (arith, h.1)) (omega (arith, p.2, p.3))
