use Rattle.std.proofs.Common.{sym, ◌∙◌, arith}
use Rattle.property.specs.Laws.{front-on, front_at, front-end}
use Rattle.property.proofs.line.front.Goals as goal

pub returns-then-not-is_passed : goal.returns-then-not-is_passed
returns-then-not-is_passed c =
    let a = c.args in front_at a.b a.same a.s.now c.loop-i.i (omega arith) (sym c.is_passed.ensures ∙ c.if-not-is_passed.true) ∙ c.loop-i.invariant

pub loop-i-preserved : goal.loop-i-preserved
loop-i-preserved c =
    let a = c.args in front-on a.b a.same a.s.now c.loop-i.i (omega arith) (sym c.is_passed.ensures ∙ c.if-not-is_passed.false) ∙ c.loop-i.invariant

pub returns : goal.returns
returns c = let a = c.args in let e = front-end a.b a.same a.s.now c.loop-i.i (omega arith) ∙ c.loop-i.invariant in omega arith
