use Rattle.std.proofs.Common.{◌∙◌, arith}
use Rattle.sheet.proofs.Within.{within-next, within_above, within-end}
use Rattle.sheet.proofs.is_within.Goals as goal

pub loop-n-preserved : goal.loop-n-preserved
loop-n-preserved c = let a = c.args in let l = c.loop-n in within-next a.most a.list.now l.n-index (omega arith) (omega arith) ∙ l.invariant

pub returns-then-most-n : goal.returns-then-most-n
returns-then-most-n c = let a = c.args in let l = c.loop-n in within_above a.most a.list.now l.n-index (omega arith) (omega arith) ∙ l.invariant

pub returns : goal.returns
returns c = let a = c.args in let l = c.loop-n in within-end a.most a.list.now l.n-index (omega arith) ∙ l.invariant
