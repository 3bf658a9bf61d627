-- The bytes before the place are those of the words.
use Rattle.std.proofs.Common.{◌≡◌, take, length}
use Rattle.std.proofs.lemmas.List.Edits.{sets}
use Rattle.text.proofs.words_in.Given as goal

abbrev pub invariant-loop-i : goal.invariant-loop-i
invariant-loop-i l = (l.out ≡ sets l.initial.out l.at (take l.i l.words)) × (length l.out ≡ length l.initial.out)
