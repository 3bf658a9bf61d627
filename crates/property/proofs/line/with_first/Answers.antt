use Rattle.std.proofs.Common.{◌≡◌, ◌-◌, arith, eq-eqb, ne_eqb, length, take, drop, take_all, length-drop}
use Rattle.property.specs.Lines.{first_of}
use Rattle.property.proofs.line.with_first.Goals as goal

pub returns-in-Some : goal.returns-in-Some
unfolding first_of
returns-in-Some c =
    let s = c.args.s.now in
    let h = c.in-Some.ensures in
    let d = c.in-Some.h.digits in
    let t : take (length s - d) (drop d s) ≡ drop d s = take_all _ _ (omega (arith, length-drop d s)) in
    rw (← h.0, ne_eqb d 0 (λ e. omega (arith, h, e))) (rw t at c.range.ensures)

pub returns-in-None : goal.returns-in-None
unfolding first_of
returns-in-None c = rw (eq-eqb _ 0 c.in-None.ensures)
