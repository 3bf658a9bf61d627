use Rattle.std.proofs.Common.{◌≡◌, ◌-◌, ◌*◌}
use Rattle.std.proofs.lemmas.List.Edits.{sets}
use Rattle.ltk.specs.Ltk.{group_size, numbers_in, flat, entry_at, entries_of, listed}
use Rattle.ltk.proofs.fill_numbers.Given as goal

abbrev pub invariant-loop-i : goal.invariant-loop-i
invariant-loop-i l =
    sets l.list (group_size * l.i) (flat numbers_in (listed (entry_at l.file) l.i (l.n - l.i))) ≡ sets l.initial.list 0 (flat numbers_in (entries_of l.file l.n))
