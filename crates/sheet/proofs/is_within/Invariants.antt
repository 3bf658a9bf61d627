-- The numbers that are left decide.
use Rattle.std.proofs.Common.{◌≡◌, drop}
use Rattle.sheet.specs.Sheet.{within}
use Rattle.sheet.proofs.is_within.Given as goal

abbrev pub invariant-loop-n : goal.invariant-loop-n
invariant-loop-n l = within l.most (drop l.n-index l.list) ≡ within l.most l.list
