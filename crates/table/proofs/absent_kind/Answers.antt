use Rattle.std.proofs.Common.{eq-eqb, ne_eqb}
use Rattle.table.specs.Laws.{put_first, put-none, put_one}
use Rattle.table.specs.Table.{absent_kind}
use Rattle.text.specs.Bytes.{bytes}
use Rattle.table.proofs.absent_kind.Goals as goal

pub returns-then-n-eq0 : goal.returns-then-n-eq0
unfolding absent_kind bytes
returns-then-n-eq0 c = rw (eq-eqb _ _ c.if-n-eq0.true) (put_first _ _ _ _ _ _ _ _ c.put-apart.ensures (put_one _ _ _ _ _ c.kind_name.ensures))

pub returns : goal.returns
unfolding absent_kind
returns c = rw (ne_eqb _ _ c.if-n-eq0.false) (put-none _ _)
