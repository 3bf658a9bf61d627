use Rattle.sheet.proofs.Telling.{told_over}
use Rattle.sheet.proofs.gaps.apart.Goals as goal

pub returns-then-x-ne47 : goal.returns-then-x-ne47
returns-then-x-ne47 c =
    told_over _ _ _ c.gap_run-to.ensures c.if-to-s.true c.if-x-lt128.true c.if-x-ne47.true
