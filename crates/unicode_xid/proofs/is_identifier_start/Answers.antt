use Rattle.std.proofs.Common.{◌∙◌}
use Rattle.unicode_xid.proofs.Ascii.{ascii_start_lem}
use Rattle.unicode_xid.specs.Order.{start-ordered}
use Rattle.unicode_xid.specs.Tables.{start_ranges}
use Rattle.unicode_xid.proofs.is_identifier_start.Goals as goal

pub returns-then-c-lt128 : goal.returns-then-c-lt128
returns-then-c-lt128 c = c.ascii_start.ensures ∙ ascii_start_lem c.args.c c.if-c-lt128.true

-- the static is the table of specs/, number for number
pub lookup-requires : goal.lookup-requires
unfolding start_ranges
lookup-requires c = start-ordered

pub returns : goal.returns
unfolding start_ranges
returns c = c.lookup.ensures
