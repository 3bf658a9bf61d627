use Rattle.std.proofs.Common.{sym}
use Rattle.reading.proofs.Steps.{gap_ends}
use Rattle.tok.proofs.gaps.gap.Goals as goal

pub returns-then-is_over : goal.returns-then-is_over
returns-then-is_over c =
    let a = c.args in
    let h = c.is_over.ensures c.if-is_over.true in
    let e = gap_ends a.s.now a.from c.gap_run-to.result c.gap_run-to.ensures h.0 h.1 h.2 in
    (sym e.0, sym e.1)
