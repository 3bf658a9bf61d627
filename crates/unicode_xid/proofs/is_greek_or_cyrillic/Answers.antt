use Rattle.std.proofs.Common.{refl}
use Rattle.unicode_xid.specs.Common.{common_both, common-starts}
use Rattle.unicode_xid.proofs.is_greek_or_cyrillic.Goals as goal

pub returns-then-c-ge1015 : goal.returns-then-c-ge1015
returns-then-c-ge1015 c = λ e. common-starts 5 c.args.c refl c.if-c-ge1015.true e

pub returns-then-c-ge931 : goal.returns-then-c-ge931
returns-then-c-ge931 c = λ e. common-starts 4 c.args.c refl c.if-c-ge931.true e

pub returns : goal.returns
returns c = λ e. common_both 3 c.args.c refl e
