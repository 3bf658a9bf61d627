use Rattle.std.proofs.Common.{ℕ, ◌≡◌, ◌-◌}
use Rattle.ltk.specs.declared.Entry.{Entry}
use Rattle.ltk.specs.Ltk.{judge, judged, listed}
use Rattle.ltk.specs.Sources.{GivesBelow}
use Rattle.ltk.proofs.test.Given as goal

abbrev pub invariant-loop-i : goal.invariant-loop-i
invariant-loop-i g l =
    (f : ℕ → Entry) → GivesBelow l.count (goal.F-post g l.get) f → judged l.i l.before (listed f l.i (l.count - l.i)) ≡ judge (listed f 0 l.count)
