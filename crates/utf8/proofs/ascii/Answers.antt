use Rattle.std.proofs.Common.{arith}
use Rattle.utf8.proofs.Laws.{ascii_step}
use Rattle.utf8.specs.Laws.{ascii_end}
use Rattle.utf8.proofs.ascii.Goals as goal

pub loop-b-preserved : goal.loop-b-preserved
loop-b-preserved c =
    let l = c.loop-b in
    λ t. ascii_step c.args.s.now l.b-index l.m (omega arith) l.invariant t

pub returns : goal.returns
returns c =
    let l = c.loop-b in
    λ t. ascii_end c.args.s.now l.b-index l.m (omega arith) (omega arith) l.invariant t
