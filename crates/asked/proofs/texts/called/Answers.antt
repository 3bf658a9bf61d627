use Rattle.asked.specs.Calls.{called-start, called_got, called-differs, called_error, called-end, called_all}
use Rattle.asked.proofs.First.{is-first}
use Rattle.asked.proofs.texts.called.Goals as goal

pub loop-n-init : goal.loop-n-init
loop-n-init c = called-start _ _ _ _ c.start-t.ensures

pub loop-n-preserved : goal.loop-n-preserved
loop-n-preserved c =
    called_got _ _ _ _ _ _ c.loop-n.invariant c.loop-n-test.true c.next_lent-s.ensures _ _ c.in-Got.is c.token_differs-d.ensures c.in-Same.is

pub returns-in_default : goal.returns-in_default
returns-in_default c =
    called-differs _ _ _ _ _ _ c.loop-n.invariant c.loop-n-test.true c.next_lent-s.ensures _ _ c.in-Got.is c.token_differs-d.ensures (λ e. is-first _ e c.in_default.not-Same)

pub returns-in-Error : goal.returns-in-Error
returns-in-Error c =
    called_error _ _ _ _ _ _ c.loop-n.invariant c.loop-n-test.true c.next_lent-s.ensures _ _ c.in-Error.is (rw c.rust_code.ensures at c.end_differs.ensures)

pub returns-in-End : goal.returns-in-End
returns-in-End c =
    called-end _ _ _ _ _ _ c.loop-n.invariant c.loop-n-test.true c.next_lent-s.ensures _ c.in-End.is c.end_differs-in-End.ensures

pub returns : goal.returns
returns c = called_all _ _ _ _ _ c.loop-n.invariant c.loop-n-test.false
