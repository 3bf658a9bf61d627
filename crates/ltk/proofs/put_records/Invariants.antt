use Rattle.std.proofs.Common.{ℕ, ◌≡◌, ◌-◌}
use Rattle.std.proofs.lemmas.List.Edits.{sets}
use Rattle.ltk.specs.declared.Entry.{Entry}
use Rattle.ltk.specs.Layout.{header_size, record_place}
use Rattle.ltk.specs.Ltk.{records_bytes, listed}
use Rattle.ltk.specs.Sources.{GivesBelow}
use Rattle.ltk.proofs.put_records.Given as goal

abbrev pub invariant-loop-i : goal.invariant-loop-i
invariant-loop-i g l =
    (f : ℕ → Entry) → GivesBelow l.count (goal.F-post g l.get) f
    → sets l.out (record_place l.i) (records_bytes (listed f l.i (l.count - l.i))) ≡ sets l.initial.out header_size (records_bytes (listed f 0 l.count))
