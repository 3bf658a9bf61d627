use Rattle.std.proofs.Common.{arith, lt-ltb, le-ltb}
use Rattle.property.specs.Hex.{digit_of}
use Rattle.property.proofs.line.digit.Goals as goal

pub returns-in-48-to-57 : goal.returns-in-48-to-57
unfolding digit_of
returns-in-48-to-57 c = let b = c.args.b in rw (le-ltb b 0x30 (omega arith), lt-ltb b 0x3A (omega arith)) (omega arith, omega arith)

pub returns-in-65-to-70 : goal.returns-in-65-to-70
unfolding digit_of
returns-in-65-to-70 c =
    let b = c.args.b in
    rw (le-ltb b 0x30 (omega arith), le-ltb b 0x3A (omega arith), le-ltb b 0x41 (omega arith), lt-ltb b 0x47 (omega arith)) (omega arith, omega arith)

pub returns-in_default : goal.returns-in_default
unfolding digit_of
returns-in_default c = rw (lt-ltb c.args.b 0x30 (omega arith))

pub returns-in_default-2 : goal.returns-in_default-2
unfolding digit_of
returns-in_default-2 c = let b = c.args.b in rw (le-ltb b 0x30 (omega arith), le-ltb b 0x3A (omega arith), lt-ltb b 0x41 (omega arith))

pub returns-in_default-3 : goal.returns-in_default-3
unfolding digit_of
returns-in_default-3 c =
    let b = c.args.b in rw (le-ltb b 0x30 (omega arith), le-ltb b 0x3A (omega arith), le-ltb b 0x41 (omega arith), le-ltb b 0x47 (omega arith))
