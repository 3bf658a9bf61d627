-- A group of the records is the next line.
use Rattle.std.proofs.Common.{arith, length}
use Rattle.commands.specs.Laws.{going-first, going-last, going_on, group_fits}
use Rattle.commands.proofs.records_onto.Goals as goal

pub overflow_mul-size : goal.overflow_mul-size
overflow_mul-size c =
    let fits = group_fits c.args.group c.loop-i.i c.args.count (length c.args.records.now) c.loop-i-test.true c.requires in
    rw c.group_size-size.ensures.0 (omega (arith, fits))

pub record_onto-came-requires : goal.record_onto-came-requires
record_onto-came-requires c = rw c.group_size-size.ensures.0 (group_fits _ _ _ _ c.loop-i-test.true c.requires)

pub loop-i-init : goal.loop-i-init
loop-i-init c = going-first _ _ _ _ _

pub loop-i-preserved : goal.loop-i-preserved
loop-i-preserved c = going_on _ _ _ _ _ _ _ _ c.loop-i.invariant _ _ c.loop-i-test.true (rw c.group_size-size.ensures.0 at c.record_onto-came.ensures)

pub returns : goal.returns
returns c = going-last _ _ _ _ _ _ _ _ c.loop-i.invariant c.loop-i-test.false
