use Rattle.tally.specs.Tallies.{noted}
use Rattle.tally.proofs.tally.note.Goals as goal

pub returns-then-differs-first : goal.returns-then-differs-first
unfolding noted
returns-then-differs-first c = rw c.if-differs-first.true

pub returns : goal.returns
unfolding noted
returns c = rw c.if-differs-first.false
