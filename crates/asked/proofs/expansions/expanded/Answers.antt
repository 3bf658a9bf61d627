use Rattle.std.proofs.Common.{arith, get_or, le-ltb, lt-ltb}
use native.Mathlib.Nat.{sub-zero}
use Rattle.asked.specs.Expansions.{expanded_differs}
use Rattle.asked.proofs.expansions.expanded.Goals as goal

pub returns-then-room-gt-ROOM : goal.returns-then-room-gt-ROOM
unfolding expanded_differs
returns-then-room-gt-ROOM c =
    let g = c.get-room.ensures in
    rw (lt-ltb 4096 (get_or c.args.recorded.now 2 0) (omega arith), g)

pub returns : goal.returns
unfolding expanded_differs
returns c =
    let b = c in
    let g = b.get-room.ensures in
    let room = get_or b.args.recorded.now 2 0 in
    let l = le-ltb 4096 room (omega arith) in
    let e = c.expand.ensures in
    rw l (rw (g, c.rest.ensures, c.get-2.ensures, c.get.ensures, sub-zero room) at e)
