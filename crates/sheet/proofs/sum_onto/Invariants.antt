-- The numbers before the place have the row's.
use Rattle.std.proofs.Common.{◌≡◌, take}
use Rattle.sheet.specs.Sheet.{plus}
use Rattle.sheet.proofs.sum_onto.Given as goal

abbrev pub invariant-loop-i : goal.invariant-loop-i
invariant-loop-i l = l.sheet ≡ plus l.initial.sheet (take l.i l.row)
