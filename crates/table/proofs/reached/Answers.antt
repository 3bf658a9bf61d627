use Rattle.std.proofs.Common.{◌≡◌, ℕ, Option, Some, None, unwrap_or, refl, ◌∙◌}
use Rattle.table.specs.Laws.{reach}
use Rattle.table.proofs.reached.Goals as goal

same : (x : Option ℕ) → unwrap_or x 0 ≡ reach x
unfolding reach
same (Some n) = refl
same None = refl

pub returns : goal.returns
returns c = c.unwrap_or.ensures ∙ same c.args.came
