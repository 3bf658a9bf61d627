use Rattle.utf8.specs.Picks.{picks}
use Rattle.tally.specs.Tallies.{spoilt_of}
use Rattle.tally.proofs.tally.spoilt.Goals as goal

pub returns-then-t-ne0 : goal.returns-then-t-ne0
unfolding spoilt_of
returns-then-t-ne0 c = search picks

pub returns : goal.returns
unfolding spoilt_of
returns c = search picks
