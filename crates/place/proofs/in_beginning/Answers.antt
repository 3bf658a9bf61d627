use Rattle.std.proofs.Common.{sym, ◌∙◌, length-take-le}
use Rattle.utf8.proofs.Laws.{bad-within}
use Rattle.place.specs.Beginning.{beginning_asked, beginning_valid}
use Rattle.place.proofs.in_beginning.Goals as goal

pub slice_bounds-walk-end : goal.slice_bounds-walk-end
slice_bounds-walk-end c = sym (length-take-le _ _ (bad-within _ _ (sym c.in-Err.ensures)))

pub walk-requires-in-Err : goal.walk-requires-in-Err
walk-requires-in-Err c = beginning_valid _ _ (sym c.in-Err.ensures)

pub returns-in-Err : goal.returns-in-Err
returns-in-Err c = c.walk-in-Err.ensures ∙ beginning_asked _ _ (sym c.in-Err.ensures) _
