use Rattle.std.proofs.Common.{eq-eqb, ne_eqb}
use Rattle.table.specs.Laws.{put-more, put-none}
use Rattle.table.specs.Table.{kind_line, share_line}
use Rattle.text.specs.Bytes.{bytes}
use Rattle.table.proofs.kind_line.Goals as goal

pub returns-then-n-eq0 : goal.returns-then-n-eq0
unfolding kind_line
returns-then-n-eq0 c = rw (eq-eqb _ _ c.if-n-eq0.true) (put-none _ _)

pub returns : goal.returns
unfolding bytes kind_line share_line
returns c = rw (ne_eqb _ _ c.if-n-eq0.false) (put-more _ _ _ _ _ _ _ _ c.line_indented-begun.ensures (rw c.tenths.ensures at c.share_onto.ensures))
