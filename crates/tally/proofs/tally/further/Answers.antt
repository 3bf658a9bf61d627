use Rattle.std.proofs.Common.{refl, ap, ◌∙◌, arith}
use Rattle.tally.specs.declared.tally.Tally.{Tally}
use Rattle.tally.specs.Tallies.{step_of, up_to}
use Rattle.tally.specs.Laws.{sane_step, up_on, up_end}
use Rattle.tally.proofs.tally.further.Goals as goal

pub loop-init : goal.loop-init
loop-init c = record { sane = c.requires.0; next = refl; on = refl }

pub step-u-requires : goal.step-u-requires
step-u-requires c = let i = c.loop.invariant in (i.sane, omega arith)

pub loop-preserved : goal.loop-preserved
unfolding step_of
loop-preserved c =
    let a = c.args in
    let i = c.loop.invariant in
    let e = c.step-u.ensures in
    record {
      sane = rw e (sane_step a.p a.told c.loop.u (omega arith) i.sane);
      next = omega (arith, ap (λ (t : Tally). t.next) e);
      on = ap (λ (t : Tally). up_to a.p a.told a.to t) e ∙ up_on a.p a.told a.to c.loop.u (omega arith) ∙ i.on;
    }

pub returns : goal.returns
returns c = let a = c.args in up_end a.p a.told a.to c.loop.u (omega arith) ∙ c.loop.invariant.on
