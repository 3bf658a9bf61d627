use Rattle.std.proofs.Common.{List, take, length-take-le, take_all, ap, ◌∙◌, arith, rules}
use Rattle.std.proofs.lemmas.List.Edits.{sets}
use Rattle.record.specs.declared.Token.{Token}
use Rattle.run.specs.Numbers.{groups, numbers_all}
use Rattle.lent.proofs.Copying.{copied_none, copied_all, copied_more}
use Rattle.lent.proofs.copy_first.Goals as goal

pub returns-then-records-count : goal.returns-then-records-count
returns-then-records-count c =
    copied_none (take c.args.count c.args.list.now) c.args.records.now (omega (arith, length-take-le c.args.count c.args.list.now c.requires))

pub loop-i-init : goal.loop-i-init
unfolding groups
loop-i-init c = search rules

pub loop-i-preserved : goal.loop-i-preserved
loop-i-preserved c =
    c.put_group.ensures ∙ copied_more (take c.args.count c.args.list.now) c.args.records.now c.loop-i.i _ c.loop-i.records c.loop-i-test.true c.loop-i.invariant

pub returns : goal.returns
returns c =
    let ts : List Token = take c.args.count c.args.list.now in
    c.loop-i.invariant ∙ ap (λ (us : List Token). sets c.args.records.now 0 (numbers_all us)) (take_all c.loop-i.i ts c.loop-i-test.false)
    ∙ copied_all ts c.args.records.now (omega (arith, length-take-le c.args.count c.args.list.now c.requires))
