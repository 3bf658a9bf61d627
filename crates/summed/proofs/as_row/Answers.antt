use Rattle.summed.specs.Summed.{as_row}
use Rattle.summed.proofs.as_row.Goals as goal

pub returns : goal.returns
unfolding as_row
returns c =
    rw (← c.join.ensures, ← c.join-2.ensures, ← c.join-3.ensures)
    c.clear.ensures
