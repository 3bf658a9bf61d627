use Rattle.utf8.specs.Picks.{flags}
use Rattle.reading.specs.Gaps.{gap_turn}
use Rattle.tok.proofs.gaps.gap_turn.Goals as goal

pub returns-then-c-eq-SLASH : goal.returns-then-c-eq-SLASH
unfolding gap_turn
returns-then-c-eq-SLASH c =
    let t = c.comment_turn.ensures.0 in
    let d = c.comment_turn.ensures.1 in
    (search flags, search flags)

pub returns-then-is_whitespace : goal.returns-then-is_whitespace
unfolding gap_turn
returns-then-is_whitespace c =
    let t = c.flat.ensures.0 in
    let d = c.flat.ensures.1 in
    (search flags, search flags)

pub returns : goal.returns
unfolding gap_turn
returns c =
    let t = c.flat-2.ensures.0 in
    let d = c.flat-2.ensures.1 in
    (search flags, search flags)
