use Rattle.std.proofs.Common.{arith}
use Rattle.utf8.proofs.Widths.{passes-one, passes-two, passes_three}
use Rattle.utf8.proofs.width_at.Goals as goal

pub returns-then-a-lt128 : goal.returns-then-a-lt128
returns-then-a-lt128 c = (omega arith, passes-one c.args.s.now c.args.at (omega arith) (omega arith))

pub returns-then-a-lt224 : goal.returns-then-a-lt224
returns-then-a-lt224 c = (omega arith, passes-two c.args.s.now c.args.at (omega arith) (omega arith) (omega arith) (omega arith) (omega arith))

pub returns-then-a-lt237 : goal.returns-then-a-lt237
returns-then-a-lt237 c = (omega arith, passes_three c.args.s.now c.args.at (omega arith) (omega arith) (omega arith) (omega arith) (omega arith) (omega arith) (omega arith))
