-- The promises in numbers of what the readers answer to other parts of the tokenizer: of `scan::Skip` and `scan::Turn`.
use Rattle.scan.specs.Shapes.{Skip}
use Rattle.scan.specs.declared.Turn.{Turn}
use Rattle.numbers.specs.Inner.{skip-same, skip_numbers, turn-same, turn_numbers}
use Rattle.numbers.specs.Promised.{Tells, tells}

pub skip-told : (r d : Skip) → Tells skip_numbers r d
skip-told r d = tells skip_numbers skip-same r d

pub turn-told : (r d : Turn) → Tells turn_numbers r d
turn-told r d = tells turn_numbers turn-same r d
