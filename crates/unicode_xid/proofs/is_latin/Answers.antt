use Rattle.std.proofs.Common.{refl}
use Rattle.unicode_xid.specs.Common.{common_both, common-starts}
use Rattle.unicode_xid.proofs.is_latin.Goals as goal

pub returns-then-c-ge248 : goal.returns-then-c-ge248
returns-then-c-ge248 c = λ e. common-starts 2 c.args.c refl c.if-c-ge248.true e

pub returns-then-c-ge216 : goal.returns-then-c-ge216
returns-then-c-ge216 c = λ e. common-starts 1 c.args.c refl c.if-c-ge216.true e

pub returns : goal.returns
returns c = λ e. common_both 0 c.args.c refl e
