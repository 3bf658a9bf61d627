use Rattle.std.proofs.Common.{◌∙◌, arith}
use Rattle.property.specs.Laws.{line-none, line_remark, line_points}
use Rattle.property.proofs.line.parse.Goals as goal

pub returns-in-empty : goal.returns-in-empty
returns-in-empty c = line-none c.args.s.now (omega arith)

pub returns-in-empty-2 : goal.returns-in-empty-2
returns-in-empty-2 c = line_remark c.args.s.now (omega arith) (omega arith)

pub returns-in_default : goal.returns-in_default
returns-in_default c = c.with_first.ensures ∙ line_points c.args.s.now (omega arith) (λ e. omega arith)
