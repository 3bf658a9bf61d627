use Rattle.std.proofs.Common.{refl}
use Rattle.sheet.specs.Adds.{empty_sheet}
use Rattle.sheet.proofs.empty_row.Goals as goal

-- src/lib.rt:89:1
pub returns : goal.returns
unfolding empty_sheet
returns c = refl
