use Rattle.summed.specs.Summed.{joined}
use Rattle.summed.proofs.join.Goals as goal

pub returns : goal.returns
unfolding joined
returns c =
    rw (← c.get.ensures, ← c.more.ensures)
    c.clear.ensures
