use Rattle.std.proofs.Common.{is_some, set, subst, length, ap, ◌≡◌, ◌+◌, ◌∙◌, arith}
use Rattle.run.specs.declared.Pending.{Pending}
use Rattle.record.specs.declared.Token.{Token}
use Rattle.run.proofs.Turns.{Inv, start, same_length, goes_on, within, turn, end, advance-stored}
use Rattle.run.specs.Pending.{taken}
use Rattle.run.proofs.run.Goals as goal

pub loop-p-init : goal.loop-p-init
loop-p-init c = (length c.args.text.now, rw c.begin-p.ensures (start c.args.text.now c.args.shift c.args.limit c.args.list.now c.args.from))

pub offset_bounds-list-p : goal.offset_bounds-list-p
offset_bounds-list-p c =
    let i = c.loop-p.invariant in
    let w = within c.args.text.now c.args.shift c.args.limit c.args.list.now c.args.from i.0 c.loop-p.p c.loop-p.list i.1 (ap is_some c.in-Some.is) in
    omega (arith, w)

pub bounds-list-p : goal.bounds-list-p
bounds-list-p c =
    let i = c.loop-p.invariant in
    let w = within c.args.text.now c.args.shift c.args.limit c.args.list.now c.args.from i.0 c.loop-p.p c.loop-p.list i.1 (ap is_some c.in-Some.is) in
    let l = same_length c.args.text.now c.args.shift c.args.limit c.args.list.now c.args.from i.0 c.loop-p.p c.loop-p.list i.1 in
    omega (arith, w, l)

pub advance-p-requires : goal.advance-p-requires
advance-p-requires c = goes_on c.args.text.now c.args.shift c.args.limit c.args.list.now c.args.from c.loop-p.invariant.0 c.loop-p.p c.loop-p.list c.loop-p.invariant.1 (ap is_some c.in-Some.is)

pub loop-p-smaller : goal.loop-p-smaller
loop-p-smaller c =
    let i = c.loop-p.invariant in
    let w = within c.args.text.now c.args.shift c.args.limit c.args.list.now c.args.from i.0 c.loop-p.p c.loop-p.list i.1 (ap is_some c.in-Some.is) in
    let z : c.advance-p.result.ran.stored ≡ c.loop-p.p.ran.stored + 1 = ap (λ (q : Pending). q.ran.stored) c.advance-p.ensures ∙ advance-stored c.args.text.now c.args.shift c.args.limit (length c.args.list.now) c.args.from c.loop-p.p in
    omega (arith, w, z)

pub loop-p-preserved : goal.loop-p-preserved
loop-p-preserved c =
    let i = c.loop-p.invariant in
    let n = turn c.args.text.now c.args.shift c.args.limit c.args.list.now c.args.from i.0 c.loop-p.p c.loop-p.list i.1 (ap is_some c.in-Some.is) in
    let q : taken c.loop-p.p ≡ c.in-Some.token = rw c.in-Some.is in
    let P : Token → Type 0 = λ y. Inv c.args.text.now c.args.shift c.args.limit c.args.list.now c.args.from n.less c.advance-p.result (set c.loop-p.list c.loop-p.p.ran.stored y) in
    (n.less, subst P q (rw c.advance-p.ensures n.again))

pub returns : goal.returns
returns c = end c.args.text.now c.args.shift c.args.limit c.args.list.now c.args.from c.loop-p.invariant.0 c.loop-p.p c.loop-p.list c.loop-p.invariant.1 (ap is_some c.in_default.is)
