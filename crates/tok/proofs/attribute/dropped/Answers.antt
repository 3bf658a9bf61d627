use Rattle.std.proofs.Common.{refl}
use Rattle.scan.specs.Far.{after}
use Rattle.reading.specs.Attribute.{dropped}
use Rattle.tok.proofs.attribute.dropped.Goals as goal

pub returns-in-Kept : goal.returns-in-Kept
unfolding after dropped
returns-in-Kept c = rw c.in-Kept.is (refl, refl)
