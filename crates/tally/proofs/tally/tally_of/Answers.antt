use Rattle.std.proofs.Common.{◌≡◌, ◌-◌, ap, ◌∙◌, arith, length}
use Rattle.std.specs.Prelude.{◌+◌, false}
use Rattle.property.specs.declared.line.Read.{Read}
use Rattle.property.specs.Laws.{line_on}
use Rattle.tally.specs.declared.tally.Tally.{Tally}
use Rattle.tally.specs.Tallies.{end, of_lines, tally_of, up_to}
use Rattle.tally.specs.Laws.{sane_fresh, sane_line, lines-on, lines_end}
use Rattle.tally.proofs.tally.tally_of.Goals as goal

pub loop-at-init : goal.loop-at-init
unfolding of_lines
loop-at-init c =
    let z : length c.args.s.now - 0 ≡ length c.args.s.now = omega arith in
    record { sane = rw c.fresh-t.ensures sane_fresh; few = omega arith; on = rw (c.fresh-t.ensures, z) }

pub loop-at-smaller : goal.loop-at-smaller
loop-at-smaller c = let l = c.loop-at in omega (arith, line_on c.args.s.now l.at (omega arith), ap (λ (r : Read). r.next) c.line_at-read.ensures)

pub loop-at-preserved : goal.loop-at-preserved
loop-at-preserved c =
    let a = c.args in
    let l = c.loop-at in
    let i = l.invariant in
    record {
      sane = rw c.with_line-t.ensures (sane_line a.p (l.n + 1) c.line_at-read.result.line l.t i.sane);
      few = omega (arith, line_on a.s.now l.at (omega arith), ap (λ (r : Read). r.next) c.line_at-read.ensures);
      on = rw (c.with_line-t.ensures, c.line_at-read.ensures) (lines-on a.s.now a.p l.at l.n l.t (omega arith) (omega arith) ∙ i.on);
    }

pub returns : goal.returns
unfolding tally_of
returns c =
    let a = c.args in
    let l = c.loop-at in
    c.further.ensures ∙ ap (λ (t : Tally). up_to a.p false end t) (lines_end (length a.s.now - l.n) a.s.now a.p l.at l.n l.t (omega arith) ∙ l.invariant.on)
