use Rattle.sheet.specs.Sheet.{is_sheet}
use Rattle.sheet.proofs.is_sheet.Goals as goal

pub returns : goal.returns
unfolding is_sheet
returns c = c.is_within.ensures
