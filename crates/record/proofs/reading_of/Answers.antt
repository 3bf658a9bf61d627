use Rattle.utf8.specs.Picks.{picks}
use Rattle.record.specs.Readings.{reading_of}
use Rattle.record.proofs.reading_of.Goals as goal

pub returns-in-0 : goal.returns-in-0
unfolding reading_of
returns-in-0 c = search picks

pub returns-in-1 : goal.returns-in-1
unfolding reading_of
returns-in-1 c = rw c.in-1.is

pub returns-in_default : goal.returns-in_default
unfolding reading_of
returns-in_default c = search picks
