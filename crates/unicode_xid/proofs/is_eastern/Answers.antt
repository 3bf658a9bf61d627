use Rattle.std.proofs.Common.{refl}
use Rattle.unicode_xid.specs.Common.{common_both, common-starts}
use Rattle.unicode_xid.proofs.is_eastern.Goals as goal

pub returns-then-c-ge44032 : goal.returns-then-c-ge44032
returns-then-c-ge44032 c = λ e. common-starts 10 c.args.c refl c.if-c-ge44032.true e

pub returns-then-c-ge19968 : goal.returns-then-c-ge19968
returns-then-c-ge19968 c = λ e. common-starts 9 c.args.c refl c.if-c-ge19968.true e

pub returns-then-c-ge12540 : goal.returns-then-c-ge12540
returns-then-c-ge12540 c = λ e. common-starts 8 c.args.c refl c.if-c-ge12540.true e

pub returns-then-c-ge12449 : goal.returns-then-c-ge12449
returns-then-c-ge12449 c = λ e. common-starts 7 c.args.c refl c.if-c-ge12449.true e

pub returns : goal.returns
returns c = λ e. common_both 6 c.args.c refl e
