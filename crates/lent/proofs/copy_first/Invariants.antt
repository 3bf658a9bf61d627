use Rattle.std.proofs.Common.{◌≡◌, take}
use Rattle.std.proofs.lemmas.List.Edits.{sets}
use Rattle.run.specs.Numbers.{numbers_all}
use Rattle.lent.proofs.copy_first.Given as goal

abbrev pub invariant-loop-i : goal.invariant-loop-i
invariant-loop-i l = l.records ≡ sets l.initial.records 0 (numbers_all (take l.i l.t-items))
