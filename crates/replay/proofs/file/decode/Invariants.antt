-- No more numbers than bytes.
use Rattle.std.proofs.Common.{◌≤◌}
use Rattle.replay.proofs.file.decode.Given as goal

abbrev pub invariant-loop-byte : goal.invariant-loop-byte
invariant-loop-byte l = l.n ≤ l.byte-index
