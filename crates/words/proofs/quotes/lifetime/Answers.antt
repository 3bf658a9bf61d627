use Rattle.std.proofs.Common.{sym, ◌∙◌, arith}
use Rattle.utf8.specs.Chars.{'quote}
use Rattle.scan.specs.Far.{lands}
use Rattle.scan.specs.IfNext.{next-room, nexts}
use Rattle.scan.specs.Passes.{seek-at}
use Rattle.scan.specs.declared.Sought.TheVariants.{Word}
use Rattle.reading.specs.Sights.{lifetime_at}
use Rattle.words.proofs.quotes.lifetime.Goals as goal

pub overflow_add-place : goal.overflow_add-place
overflow_add-place c = omega (arith, next-room (c.args.s.now) (c.in-Ok.place) 'quote (sym c.is_next.ensures ∙ c.if-is_next.true))

pub overflow_add-passed : goal.overflow_add-passed
overflow_add-passed c = let l = lands (c.in-Ok.passed) (c.args.s.now) (c.args.at) (c.in-Ok.place) (seek-at _ _ _ _ Word (sym c.in-Ok.ensures)) in omega (arith, l.gone, next-room (c.args.s.now) (c.in-Ok.place) 'quote (sym c.is_next.ensures ∙ c.if-is_next.true))

pub returns-then-is_next : goal.returns-then-is_next
returns-then-is_next c = rw (lifetime_at (c.args.s.now) (c.args.at) (c.in-Ok.place) (c.in-Ok.passed) _ (sym c.in-Ok.ensures)) (search nexts)

pub returns-else-is_next : goal.returns-else-is_next
returns-else-is_next c = rw (lifetime_at (c.args.s.now) (c.args.at) (c.in-Ok.place) (c.in-Ok.passed) _ (sym c.in-Ok.ensures)) (search nexts)
