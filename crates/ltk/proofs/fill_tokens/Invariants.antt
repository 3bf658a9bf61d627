use Rattle.std.proofs.Common.{◌≡◌, ◌-◌, length, map}
use Rattle.std.proofs.lemmas.List.Edits.{sets}
use Rattle.ltk.specs.Ltk.{token_in, entry_at, entries_of, listed}
use Rattle.ltk.proofs.fill_tokens.Given as goal

abbrev pub invariant-loop-i : goal.invariant-loop-i
invariant-loop-i l =
    sets l.list l.i (map token_in (listed (entry_at l.file) l.i (length l.initial.list - l.i))) ≡ map token_in (entries_of l.file (length l.initial.list))
