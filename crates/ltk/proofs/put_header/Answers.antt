use Rattle.std.proofs.Common.{arith, refl}
use Rattle.ltk.specs.Layout.{mark}
use Rattle.ltk.proofs.Laying.{part_set, header_laid}
use Rattle.ltk.proofs.put_header.Goals as goal

pub returns : goal.returns
returns c =
    let m = part_set 0 3 c.args.out.now c.copy_from_slice.new.self mark (omega arith) refl c.copy_from_slice.ensures.after in
    cc (c.put.ensures, c.put-2.ensures, m, header_laid c.args.out.now c.args.count)
