use Rattle.std.proofs.Common.{sym, ◌∙◌, ap, arith, ◌≡◌, Ok}
use Rattle.ltk.proofs.Judging.{stopped, passed, all_passed}
use Rattle.ltk.proofs.test.Goals as goal

pub returns-then-is_bad-clause-judged : goal.returns-then-is_bad-clause-judged
returns-then-is_bad-clause-judged g c f h =
    stopped f c.args.count c.loop-i.i c.loop-i.before c.loop-i-test.true c.get-e.result (h _ c.loop-i-test.true _ c.get-e.ensures) (sym c.is_bad.ensures ∙ c.if-is_bad.true)
    ∙ c.loop-i.invariant f h

pub loop-i-preserved : goal.loop-i-preserved
loop-i-preserved g c f h =
    passed f c.args.count c.loop-i.i c.loop-i.before c.loop-i-test.true c.get-e.result (h _ c.loop-i-test.true _ c.get-e.ensures) (sym c.is_bad.ensures ∙ c.if-is_bad.false)
    ∙ c.loop-i.invariant f h

pub returns-clause-judged : goal.returns-clause-judged
returns-clause-judged g c f h =
    let e : c.args.count ≡ c.loop-i.i = omega arith in
    ap Ok e ∙ sym (all_passed f c.args.count c.loop-i.i c.loop-i.before c.loop-i-test.false) ∙ c.loop-i.invariant f h
