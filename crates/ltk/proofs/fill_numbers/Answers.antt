use Rattle.std.proofs.Common.{ℕ, ◌*◌, ◌∙◌, sym}
use Rattle.ltk.specs.Ltk.{group_size, numbers_in, entry_at}
use Rattle.ltk.proofs.Laying.{lay-on, lay-end, group_step}
use Rattle.ltk.proofs.fill_numbers.Goals as goal

pub loop-i-preserved : goal.loop-i-preserved
loop-i-preserved c =
    rw c.put_group.ensures
    (lay-on (entry_at c.args.file.now) numbers_in (λ (k : ℕ). group_size * k) group_step c.args.n c.loop-i.list c.loop-i.i c.loop-i-test.true c.entry_at.result c.entry_at.ensures
    ∙ c.loop-i.invariant)

pub returns : goal.returns
returns c =
    sym (lay-end (entry_at c.args.file.now) numbers_in (λ (k : ℕ). group_size * k) group_step c.args.n c.loop-i.list c.loop-i.i c.loop-i-test.false) ∙ c.loop-i.invariant
