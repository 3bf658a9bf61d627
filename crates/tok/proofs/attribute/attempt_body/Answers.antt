use Rattle.std.proofs.Common.{sym, ◌∙◌, arith}
use Rattle.scan.specs.IfNext.{next-room, nexts}
use Rattle.utf8.specs.Chars.{']}
use Rattle.reading.specs.Sights.{body_at, body_lands, body_lost}
use Rattle.tok.proofs.attribute.attempt_body.Goals as goal

pub overflow_add-result : goal.overflow_add-result
overflow_add-result c = omega (arith, next-room (c.args.s.now) (c.in-Ok.p) '] (sym c.is_next.ensures ∙ c.if-is_next.true))

pub overflow_add-result-then-is_next : goal.overflow_add-result-then-is_next
overflow_add-result-then-is_next c = let l = body_lands (c.args.s.now) (c.args.at) (c.in-Ok.p) (c.in-Ok.m) (sym c.in-Ok.ensures) in omega (arith, l.gone, next-room (c.args.s.now) (c.in-Ok.p) '] (sym c.is_next.ensures ∙ c.if-is_next.true))

pub returns-then-is_next : goal.returns-then-is_next
returns-then-is_next c = rw (body_at (c.args.s.now) (c.args.at) (c.in-Ok.p) (c.in-Ok.m) (sym c.in-Ok.ensures)) (search nexts)

pub returns-else-is_next : goal.returns-else-is_next
returns-else-is_next c = rw (body_at (c.args.s.now) (c.args.at) (c.in-Ok.p) (c.in-Ok.m) (sym c.in-Ok.ensures)) (search nexts)

pub returns-in-Err : goal.returns-in-Err
returns-in-Err c = sym (body_lost c.args.s.now c.args.at _ _ _ (sym c.in-Err.ensures))
