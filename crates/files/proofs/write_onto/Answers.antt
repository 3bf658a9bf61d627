use Rattle.std.proofs.Common.{refl, sym, ◌∙◌}
use Rattle.files.specs.Laws.{write_done}
use Rattle.files.proofs.write_onto.Goals as goal

pub returns-in-Ok : goal.returns-in-Ok
returns-in-Ok c = (write_done _ c.args.name.now c.args.out.now _ _ _ (sym c.write_numbers.ensures.0 ∙ c.in-Ok.is) c.write_numbers.ensures.1, refl)
