use Rattle.std.proofs.Common.{refl, sym, ◌∙◌, arith}
use Rattle.property.specs.Hex.{hex_of}
use Rattle.property.specs.Laws.{hex_on, hex_other, hex_full, hex_end}
use Rattle.property.proofs.line.digits.Goals as goal

pub loop-b-init : goal.loop-b-init
unfolding hex_of
loop-b-init c = record { few = omega arith; fits = omega arith; on = refl }

pub loop-b-preserved : goal.loop-b-preserved
loop-b-preserved c =
    let l = c.loop-b in
    let d = c.in-Some.ensures in
    record {
      few = omega arith;
      fits = omega (arith, d);
      on = hex_on l.value l.digits c.args.s.now l.b-index c.in-Some.d (omega arith) d.0 d.1 (omega arith) ∙ l.invariant.on;
    }

pub returns-after-loop-b : goal.returns-after-loop-b
returns-after-loop-b c = let l = c.loop-b in hex_end l.value l.digits c.args.s.now l.b-index (omega arith) ∙ l.invariant.on

pub returns-in_default : goal.returns-in_default
returns-in_default c =
    let l = c.loop-b in
    hex_other l.value l.digits c.args.s.now l.b-index 16 (omega arith) (sym c.in_default.ensures) (omega arith) ∙ l.invariant.on

pub returns-then-value-gt1114111 : goal.returns-then-value-gt1114111
returns-then-value-gt1114111 c =
    let l = c.loop-b in
    let d = c.in-Some.ensures in
    hex_full l.value l.digits c.args.s.now l.b-index c.in-Some.d (omega arith) d.0 d.1 (omega arith) ∙ l.invariant.on
