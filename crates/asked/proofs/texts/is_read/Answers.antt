use Rattle.std.proofs.Common.{sym}
use Rattle.run.specs.Steps.{ranged}
use Rattle.asked.specs.Texts.{is_read}
use Rattle.asked.specs.Calls.{not_passed, passed}
use Rattle.asked.proofs.texts.is_read.Goals as goal

pub returns-in-Err : goal.returns-in-Err
unfolding is_read
returns-in-Err c = rw (not_passed _ _ _ _ (sym c.in-Err.ensures))

pub overflow_sub-result : goal.overflow_sub-result
overflow_sub-result c = let h = ranged _ _ _ _ (passed _ _ _ (sym c.in-Ok.ensures)) in h.order

pub returns : goal.returns
unfolding is_read
returns c = rw (passed _ _ _ (sym c.in-Ok.ensures), ← c.payload-part.ensures)
