use Rattle.std.proofs.Common.{arith}
use Rattle.reading.proofs.Calls.{identifier_fair}
use Rattle.tok.specs.Fits.{fair_fits}
use Rattle.tok.proofs.next.other.Goals as goal

pub more-requires : goal.more-requires
more-requires c = omega (arith, fair_fits c.args.s.now c.args.next c.identifierish.ensures (identifier_fair _ _ _ _ _))
