use Rattle.std.proofs.Common.{arith}
use Rattle.text.specs.Bytes.{bytes}
use Rattle.text.specs.DigitLaws.{at-most_twenty}
use Rattle.text.specs.Pieces.{phrase, phrases, spaced-on}
use Rattle.text.proofs.spaced_in.Goals as goal

pub number_in-requires : goal.number_in-requires
number_in-requires c = let h = at-most_twenty c.args.n in let p = c.name_in-to in omega (arith, h, p.ensures.0, p.auto.out)

pub returns : goal.returns
unfolding bytes phrase phrases
returns c = let p = c.name_in-to in let n = c.number_in in spaced-on _ _ _ _ _ _ _ p.ensures.0 p.ensures.1 n.ensures.0 n.ensures.1
