use Rattle.asked.specs.Expansions.{expanded_by}
use Rattle.asked.proofs.expansions.part_differs.Goals as goal

pub returns : goal.returns
unfolding expanded_by
returns c =
    let e = c.answer_differs.ensures in
    rw (c.expansion.ensures, c.written.ensures, c.stands.ensures) at e
