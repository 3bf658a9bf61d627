use Rattle.std.proofs.Common.{arith}
use Rattle.ltk.proofs.Numbers.{number_4}
use Rattle.ltk.proofs.number4.Goals as goal

pub returns : goal.returns
returns c = let a = c.args in (omega (arith, number_4 a.s.now a.p), omega arith)
