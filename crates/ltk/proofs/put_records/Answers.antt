use Rattle.std.proofs.Common.{◌∙◌, sym}
use Rattle.ltk.specs.Layout.{record_place}
use Rattle.ltk.specs.Ltk.{record_bytes}
use Rattle.ltk.proofs.Laying.{lay-on, lay-end, record_step}
use Rattle.ltk.proofs.put_records.Goals as goal

pub loop-i-preserved : goal.loop-i-preserved
loop-i-preserved g c f h =
    rw c.put_record.ensures
    (lay-on f record_bytes record_place record_step c.args.count c.loop-i.out c.loop-i.i c.loop-i-test.true c.get.result (h _ c.loop-i-test.true _ c.get.ensures)
    ∙ c.loop-i.invariant f h)

pub returns : goal.returns
returns g c f h = sym (lay-end f record_bytes record_place record_step c.args.count c.loop-i.out c.loop-i.i c.loop-i-test.false) ∙ c.loop-i.invariant f h
