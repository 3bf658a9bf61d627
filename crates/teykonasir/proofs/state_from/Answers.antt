use Rattle.std.proofs.Common.{eq-eqb, ne_eqb, sym}
use Rattle.teykonasir.specs.State.{state_from}
use Rattle.teykonasir.proofs.state_from.Reads as reads
use Rattle.teykonasir.proofs.state_from.Lts as lts
use Rattle.teykonasir.proofs.code_of.Reads as code-of-reads
use Rattle.teykonasir.proofs.state_from.Goals as goal

pub returns-then-done-eq0 : goal.returns-then-done-eq0
unfolding state_from
returns-then-done-eq0 c = rw (eq-eqb _ _ c.if-done-eq0.true)

pub returns-then-done-eq-ENDED : goal.returns-then-done-eq-ENDED
unfolding state_from
returns-then-done-eq-ENDED c = rw (ne_eqb _ _ c.if-done-eq0.false, eq-eqb _ _ c.if-done-eq-ENDED.true)

pub returns-in-Some : goal.returns-in-Some
unfolding state_from
returns-in-Some c = rw (ne_eqb _ _ c.if-done-eq0.false, ne_eqb _ _ c.if-done-eq-ENDED.false, sym c.in-Some.ensures)

pub returns-in-None : goal.returns-in-None
unfolding state_from
returns-in-None c = rw (ne_eqb _ _ c.if-done-eq0.false, ne_eqb _ _ c.if-done-eq-ENDED.false, sym c.in-None.ensures)
