use Rattle.std.proofs.Common.{le-ltb}
use Rattle.record.specs.Numbers.{kind_of}
use Rattle.ltk.proofs.kind_in.Goals as goal

pub returns-then-n-gt-LAST_KIND : goal.returns-then-n-gt-LAST_KIND
unfolding kind_of
returns-then-n-gt-LAST_KIND c = simp (le-ltb _ _ c.if-n-gt-LAST_KIND.true)
