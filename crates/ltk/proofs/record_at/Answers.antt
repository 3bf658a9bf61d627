use Rattle.std.proofs.Common.{◌<◌, arith, ap, ◌∙◌, lt-ltb, le-ltb}
use Rattle.ltk.specs.Ltk.{count_in, record_at, token_in}
use Rattle.ltk.proofs.record_at.Goals as goal

pub returns-then-count-i : goal.returns-then-count-i
unfolding record_at
returns-then-count-i c = simp (le-ltb c.args.i (count_in c.args.file.now) (omega (arith, c.number4-count.ensures.0)))

pub returns-then-file-i : goal.returns-then-file-i
unfolding record_at
returns-then-file-i c =
    let h : c.args.i < count_in c.args.file.now = omega (arith, c.number4-count.ensures.0) in
    simp (lt-ltb _ _ h, lt-ltb _ _ c.if-file-i.true)

pub returns-then-n-gt-LAST_KIND : goal.returns-then-n-gt-LAST_KIND
unfolding record_at
returns-then-n-gt-LAST_KIND c =
    let h : c.args.i < count_in c.args.file.now = omega (arith, c.number4-count.ensures.0) in
    let k = rw c.entry_at-e.ensures at c.if-n-gt-LAST_KIND.true in
    simp (lt-ltb _ _ h, le-ltb _ _ c.if-file-i.false, lt-ltb _ _ k)

pub returns : goal.returns
unfolding record_at
returns c =
    let h : c.args.i < count_in c.args.file.now = omega (arith, c.number4-count.ensures.0) in
    let k = rw c.entry_at-e.ensures at c.if-n-gt-LAST_KIND.false in
    simp (lt-ltb _ _ h, le-ltb _ _ c.if-file-i.false, le-ltb _ _ k) (rw (c.from.ensures ∙ ap token_in c.entry_at-e.ensures))
