use Rattle.std.proofs.Common.{ap, sym, ◌∙◌, arith}
use Rattle.scan.specs.declared.Sought.TheVariants.{Hashes}
use Rattle.scan.specs.Far.{lands, fits}
use Rattle.scan.specs.Seek.{skip_more}
use Rattle.scan.specs.Passes.{seek-at, sound_fits}
use Rattle.code.specs.Code.{hash_past}
use Rattle.code.specs.Laws.{body_sound}
use Rattle.code.proofs.hash_skip.Goals as goal

pub skip_more-requires : goal.skip_more-requires
skip_more-requires c = omega (arith, ((lands _ _ _ _ (seek-at _ _ _ _ Hashes (sym c.in-Ok.ensures)))).within, fits c.args.s.now c.args.at, sound_fits c.args.s.now c.in-Ok.place c.body_skip.ensures (body_sound _ _ _ _ _))

pub returns-in-Ok : goal.returns-in-Ok
returns-in-Ok c = let l = (lands _ _ _ _ (seek-at _ _ _ _ Hashes (sym c.in-Ok.ensures))) in c.skip_more.ensures ∙ ap (skip_more _) (rw (← l.rest) at c.body_skip.ensures) ∙ ap (hash_past _ _ _) (sym c.in-Ok.is ∙ c.take_until.ensures)
