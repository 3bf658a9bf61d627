use Rattle.std.proofs.Common.{arith, refl}
use Rattle.std.proofs.Math.ListN.{length-set}
use Rattle.text.specs.Stores.{stored_all, stored_on}
use Rattle.text.proofs.words_in.Goals as goal

pub loop-i-preserved : goal.loop-i-preserved
loop-i-preserved c =
    let l = c.loop-i in
    let a = c.args in
    (stored_on a.out.now a.at l.i a.words.now l.out l.invariant.0 (omega arith), simp length-set l.invariant.1)

pub returns : goal.returns
returns c =
    let l = c.loop-i in
    let a = c.args in
    (refl, (stored_all a.out.now a.at l.i a.words.now l.out l.invariant.0 (omega arith) (omega arith)).1)
