use Rattle.text.specs.Stores.{lay_shut}
use Rattle.text.proofs.put.Goals as goal

pub returns-in_err-from : goal.returns-in_err-from
returns-in_err-from c = rw (c.from_residual.ensures, c.in_err-from.was) (lay_shut _ _)
