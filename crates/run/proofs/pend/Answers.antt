use Rattle.utf8.specs.Picks.{picks}
use Rattle.run.specs.Pending.{pend_of}
use Rattle.run.proofs.pend.Goals as goal

pub returns-then-n-room : goal.returns-then-n-room
unfolding pend_of
returns-then-n-room c = rw (← c.step-s.ensures) (rw c.in-Got.is (search picks))

pub returns-else-n-room : goal.returns-else-n-room
unfolding pend_of
returns-else-n-room c = rw (← c.step-s.ensures) (rw c.in-Got.is (search picks))

pub returns-in-Error : goal.returns-in-Error
unfolding pend_of
returns-in-Error c = rw (← c.step-s.ensures) (rw c.in-Error.is c.halted-in-Error.ensures)

pub returns-in-End : goal.returns-in-End
unfolding pend_of
returns-in-End c = rw (← c.step-s.ensures) (rw c.in-End.is c.ended.ensures)
