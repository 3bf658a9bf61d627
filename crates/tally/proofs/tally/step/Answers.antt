use Rattle.std.proofs.Common.{◌∙◌}
use Rattle.tally.specs.Tallies.{step_of}
use Rattle.tally.proofs.Bools.{one_byte, other_differs}
use Rattle.tally.proofs.tally.step.Goals as goal

pub returns : goal.returns
unfolding step_of
returns c =
    rw (c.from.ensures ∙ one_byte c.args.told, c.from-2.ensures ∙ one_byte c.asks-answer.result, c.note-first.ensures, other_differs, c.asks-answer.ensures, c.is_besides.ensures)
