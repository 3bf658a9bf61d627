-- So long a list is not counted: a law tells its length.
use Rattle.std.proofs.Common.{ℕ, sym}
use Rattle.std.proofs.lemmas.List.{length-replicate}
use Rattle.said.proofs.fitting.Goals as goal

pub returns : goal.returns
returns c = sym (length-replicate {0} {A = ℕ} 32768 32)
