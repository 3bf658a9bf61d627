use Rattle.std.proofs.Common.{◌∙◌}
use Rattle.std.specs.Prelude.{length, nat_lt, ◌==◌, ◌&&◌}
use Rattle.summed.specs.Summed.{dropped}
use Rattle.summed.proofs.Counts.{one_byte, one-most}
use Rattle.summed.proofs.dropped.Goals as goal

pub returns : goal.returns
unfolding dropped
returns c =
    let t = c.args.kind == 53 && nat_lt c.args.end (length c.args.text.now) in
    let e = c.from.ensures ∙ one_byte t in
    (e, rw e (one-most t))
