use Rattle.summed.specs.Summed.{ended_onto}
use Rattle.summed.proofs.ended_onto.Goals as goal

pub returns : goal.returns
unfolding ended_onto
returns c =
    rw (← c.get.ensures, ← c.rest.ensures, ← c.tokens_onto.ensures, ← c.characters.ensures.0, ← c.more.ensures, ← c.get-2.ensures) c.more-2.ensures
