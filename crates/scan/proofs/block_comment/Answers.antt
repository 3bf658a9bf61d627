use Rattle.std.proofs.Common.{sym, ◌∙◌, arith}
use Rattle.scan.specs.Far.{closed-within}
use Rattle.scan.specs.Passes.{comment_past}
use Rattle.scan.proofs.block_comment.Goals as goal

pub through-requires : goal.through-requires
through-requires c = λ p m e. let h = closed-within c.args.s.now c.args.at p m (comment_past _ _ p m (sym c.comment_end-c.ensures.0 ∙ e)) in (omega arith, omega arith)
