use Rattle.commands.specs.Laws.{held_all, held_none}
use Rattle.commands.proofs.part_onto.Goals as goal

pub returns-then-records-group_size : goal.returns-then-records-group_size
returns-then-records-group_size c = held_none _ _ _ c.args.records.now _ _ (rw c.group_size.ensures.0 at c.if-records-group_size.true)

pub returns : goal.returns
returns c = let a = c.args in rw (held_all a.group a.part a.count a.records.now (rw c.group_size.ensures.0 at c.if-records-group_size.false)) c.chunk_onto.ensures
