use Rattle.std.proofs.Common.{arith, ap}
use Rattle.property.specs.declared.line.Hex.{Hex}
use Rattle.property.specs.Laws.{hex_few}
use Rattle.property.proofs.line.number.Goals as goal

pub returns : goal.returns
returns c =
    let e = ap (λ (h : Hex). h.digits) c.digits-h.ensures in
    (c.digits-h.ensures, omega arith, omega (arith, e, hex_few c.args.s.now 0))
