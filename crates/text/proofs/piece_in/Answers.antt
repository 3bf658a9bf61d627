use Rattle.std.proofs.Common.{arith}
use Rattle.text.specs.Bytes.{bytes}
use Rattle.text.specs.DigitLaws.{at-most_twenty}
use Rattle.text.specs.NameLaws.{code-short, kind_short}
use Rattle.text.specs.Names.{code_name, code_names, kind_name, kind_names}
use Rattle.text.specs.Pieces.{phrase, phrases}
use Rattle.text.proofs.piece_in.Goals as goal

pub number_in-requires : goal.number_in-requires
number_in-requires c = let h = at-most_twenty c.in-Number.n in omega (arith, h)

pub name_in-requires-in-Kind : goal.name_in-requires-in-Kind
unfolding bytes kind_name kind_names
name_in-requires-in-Kind c = let h = kind_short c.in-Kind.n in omega (arith, h)

pub name_in-requires-in-Code : goal.name_in-requires-in-Code
unfolding bytes code_name code_names
name_in-requires-in-Code c = let h = code-short c.in-Code.n in omega (arith, h)

pub returns-in-Phrase : goal.returns-in-Phrase
unfolding bytes phrase phrases
returns-in-Phrase c = rw c.in-Phrase.is c.name_in.ensures

pub returns-in-Kind : goal.returns-in-Kind
unfolding bytes kind_name kind_names
returns-in-Kind c = rw c.in-Kind.is c.name_in-in-Kind.ensures

pub returns-in-Code : goal.returns-in-Code
unfolding bytes code_name code_names
returns-in-Code c = rw c.in-Code.is c.name_in-in-Code.ensures
