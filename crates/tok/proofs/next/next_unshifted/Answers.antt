use Rattle.std.proofs.Common.{sym, ap, ◌∙◌, arith}
use Rattle.scan.specs.Passes.{sound_fits}
use Rattle.reading.specs.Answers.{more, told}
use Rattle.reading.specs.Passes.{gap_sound}
use Rattle.reading.proofs.Steps.{token-fits}
use Rattle.reading.specs.Steps.{next-gap, next_lost}
use Rattle.tok.proofs.next.next_unshifted.Goals as goal

pub more-requires : goal.more-requires
more-requires c = omega (arith, sound_fits c.args.s.now c.args.at (sym c.in-Ok.is ∙ c.gap-x.ensures.0) (gap_sound _ _), token-fits _ c.args.s.now c.in-Ok.p c.token_or_end.ensures)

pub returns-in-Ok : goal.returns-in-Ok
returns-in-Ok c =
    let s = c.args.s.now in
    let at = c.args.at in
    let g = c.gap-x.ensures in
    c.told.ensures ∙ rw g.1 (ap (told _) (c.more.ensures ∙ ap (more _) c.token_or_end.ensures) ∙ sym (next-gap _ s at _ _ (sym g.0 ∙ c.in-Ok.is)))

pub returns-in-Err : goal.returns-in-Err
returns-in-Err c =
    let a = c.args in
    c.fail.ensures ∙ sym (next_lost _ a.s.now a.at _ _ _ (sym c.gap-x.ensures.0 ∙ c.in-Err.is))
