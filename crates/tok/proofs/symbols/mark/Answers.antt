use Rattle.std.proofs.Common.{sym, ◌∙◌, arith}
use Rattle.scan.specs.IfNext.{next-room, nexts}
use Rattle.tok.proofs.symbols.mark.Goals as goal

pub overflow_add-at : goal.overflow_add-at
overflow_add-at c = omega (arith, next-room c.args.s.now c.args.at c.args.k (sym c.is_next.ensures ∙ c.if-is_next.true))

pub returns-then-is_next : goal.returns-then-is_next
returns-then-is_next c = search nexts

pub returns : goal.returns
returns c = search nexts
