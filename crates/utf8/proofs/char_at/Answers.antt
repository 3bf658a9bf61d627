use Rattle.std.proofs.Common.{arith, sym}
use Rattle.utf8.specs.Laws.{sight_past, sight_in, sight_ascii}
use Rattle.utf8.proofs.char_at.Goals as goal

-- src/lib.rt:106:9
pub returns-then-s-at : goal.returns-then-s-at
returns-then-s-at c = sym (sight_past c.args.s.now _ c.if-s-at.true)

pub returns-then-a-lt128 : goal.returns-then-a-lt128
returns-then-a-lt128 c =
    let a = c.args in
    let e = c.byte-a.ensures in
    rw e (sight_ascii a.s.now a.at (omega arith) (omega (arith, e)))

-- src/lib.rt:102:1
pub returns : goal.returns
returns c =
    let a = c.args in
    cc (sight_in a.s.now a.at (omega arith))
