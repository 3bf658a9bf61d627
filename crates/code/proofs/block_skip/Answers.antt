use Rattle.std.proofs.Common.{arith}
use Rattle.scan.specs.Passes.{block_sound, sound_fits}
use Rattle.code.proofs.block_skip.Goals as goal

pub skip_more-requires : goal.skip_more-requires
skip_more-requires c = omega (arith, sound_fits c.args.s.now c.args.at c.block_comment-x.ensures.0 (block_sound _ _ _))
