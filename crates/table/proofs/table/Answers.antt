use Rattle.std.proofs.Common.{length-take-le, sym, arith}
use Rattle.table.specs.Laws.{put-none, table_large, table-short, table-shown}
use Rattle.table.proofs.table.Goals as goal

pub returns-then-sheet-lt96 : goal.returns-then-sheet-lt96
returns-then-sheet-lt96 c = rw (table-short c.args.sheet.now c.args.refused c.if-sheet-lt96.true) (put-none _ _)

pub slice_bounds-is_small-end : goal.slice_bounds-is_small-end
slice_bounds-is_small-end c = sym (length-take-le 58 c.args.sheet.now (omega (arith, c.if-sheet-lt96.false)))

pub returns-then-is_small : goal.returns-then-is_small
returns-then-is_small c = rw (table-shown c.args.sheet.now c.args.refused _ c.if-sheet-lt96.false c.is_small.ensures c.if-is_small.true) c.shown.ensures

pub returns : goal.returns
returns c = rw (table_large c.args.sheet.now c.args.refused _ c.if-sheet-lt96.false c.is_small.ensures c.if-is_small.false) (put-none _ _)
