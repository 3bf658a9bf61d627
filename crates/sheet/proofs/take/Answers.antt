use Rattle.std.proofs.Common.{arith, sym, ◌∙◌}
use Rattle.sheet.specs.Takes.{take-bad, take_full, take_good, take_short, take-stopped}
use Rattle.sheet.proofs.take.Goals as goal

-- src/lib.rt:125:9
pub returns-then-sheet-lt-SHEET_SIZE : goal.returns-then-sheet-lt-SHEET_SIZE
returns-then-sheet-lt-SHEET_SIZE c = let z = take_short c.args.text.now c.args.sheet.now c.if-sheet-lt-SHEET_SIZE.true in (c.refused.ensures ∙ z.0, z.1)

-- src/lib.rt:131:17
pub returns-then-sheet-ge-MOST_TEXTS : goal.returns-then-sheet-ge-MOST_TEXTS
returns-then-sheet-ge-MOST_TEXTS c =
    let z = take_full c.args.text.now c.args.sheet.now (omega (arith, c.if-sheet-lt-SHEET_SIZE.false)) (sym c.in-Ok.ensures) c.if-sheet-ge-MOST_TEXTS.true in
    (c.refused-then-sheet-ge-MOST_TEXTS.ensures ∙ z.0, z.1)

-- src/lib.rt:134:17
pub returns-then-is_sheet : goal.returns-then-is_sheet
returns-then-is_sheet c = take_good c.args.text.now c.args.sheet.now (omega (arith, c.if-sheet-lt-SHEET_SIZE.false)) (sym c.in-Ok.ensures) (omega (arith, c.if-sheet-ge-MOST_TEXTS.false)) (sym c.is_sheet.ensures ∙ c.if-is_sheet.true) _ _ c.add.ensures.0 c.add.ensures.1

-- src/lib.rt:121:1
pub returns-in-Err : goal.returns-in-Err
returns-in-Err c = take-stopped c.args.text.now c.args.sheet.now (omega (arith, c.if-sheet-lt-SHEET_SIZE.false)) _ (sym c.in-Err.ensures)

-- src/lib.rt:121:1
pub returns-else-is_sheet : goal.returns-else-is_sheet
returns-else-is_sheet c =
    let z = take-bad c.args.text.now c.args.sheet.now (omega (arith, c.if-sheet-lt-SHEET_SIZE.false)) (sym c.in-Ok.ensures) (omega (arith, c.if-sheet-ge-MOST_TEXTS.false)) (sym c.is_sheet.ensures ∙ c.if-is_sheet.false) in
    (c.refused-in-Ok.ensures ∙ z.0, z.1)
