use Rattle.std.proofs.Common.{arith}
use Rattle.ltk.proofs.Numbers.{number_2}
use Rattle.ltk.proofs.number2.Goals as goal

pub returns : goal.returns
returns c = let a = c.args in (omega (arith, number_2 a.s.now a.p), omega arith)
