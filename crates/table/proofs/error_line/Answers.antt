use Rattle.std.proofs.Common.{eq-eqb, ne_eqb}
use Rattle.table.specs.Laws.{put-more, put-none, put_one}
use Rattle.table.specs.Table.{error_line, plain_line}
use Rattle.text.specs.Bytes.{bytes}
use Rattle.table.proofs.error_line.Goals as goal

pub returns-then-n-eq0 : goal.returns-then-n-eq0
unfolding error_line
returns-then-n-eq0 c = rw (eq-eqb _ _ c.if-n-eq0.true) (put-none _ _)

pub returns : goal.returns
unfolding bytes error_line plain_line
returns c = rw (ne_eqb _ _ c.if-n-eq0.false) (put-more _ _ _ _ _ _ _ _ c.line_indented-begun.ensures (put_one _ _ _ _ _ c.put.ensures))
