use Rattle.std.proofs.Common.{sym, ◌∙◌, arith}
use Rattle.scan.specs.Passes.{block_sound, sound_fits}
use Rattle.tok.proofs.gaps.block_turn.Goals as goal

pub overflow_add-result : goal.overflow_add-result
overflow_add-result c = omega (arith, sound_fits c.args.s.now c.args.at (sym c.in-Ok.is ∙ c.block_comment-x.ensures.0) (block_sound _ _ _))

pub overflow_add-result-in-Err : goal.overflow_add-result-in-Err
overflow_add-result-in-Err c = omega (arith, sound_fits c.args.s.now c.args.at (sym c.in-Err.is ∙ c.block_comment-x.ensures.0) (block_sound _ _ _))
