use Rattle.std.proofs.Common.{◌+◌, ◌*◌, sym, ◌∙◌}
use Rattle.ltk.proofs.Numbers.{number_1}
use Rattle.ltk.proofs.entry_at.Goals as goal

pub returns : goal.returns
returns c = let b = c.byte.ensures.0 ∙ sym (number_1 c.args.file.now (9 + 9 * c.args.i)) in cc (b, c.number4.ensures.0, c.number4-2.ensures.0)
