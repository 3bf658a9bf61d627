-- The digits read so far, and those that stand after them.
use Rattle.std.proofs.Common.{◌≡◌, ◌≤◌, drop}
use Rattle.property.specs.Hex.{hex_from, hex_of}
use Rattle.property.proofs.line.digits.Given as goal

abbrev pub invariant-loop-b : goal.invariant-loop-b
invariant-loop-b l =
    record {
      few : l.digits ≤ l.b-index;
      fits : l.value ≤ 0x10FFFFF;
      on : hex_from l.value l.digits (drop l.b-index l.s) ≡ hex_of l.s;
    }
