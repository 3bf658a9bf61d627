use Rattle.text.specs.Pieces.{Composed}
use Rattle.text.proofs.compose.Given as goal

abbrev pub invariant-loop-p : goal.invariant-loop-p
invariant-loop-p l = Composed l.initial.buffer l.pieces l.buffer l.n l.p-index
