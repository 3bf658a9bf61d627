use Rattle.std.proofs.Common.{sym, ◌∙◌}
use Rattle.unicode_xid.specs.Order.{start_continues}
use Rattle.unicode_xid.proofs.Ascii.{ascii_continue_lem}
use Rattle.unicode_xid.specs.Order.{continue_ordered}
use Rattle.unicode_xid.specs.Tables.{continue_ranges}
use Rattle.unicode_xid.proofs.is_identifier_continue.Goals as goal

pub returns-then-c-lt128 : goal.returns-then-c-lt128
returns-then-c-lt128 c = c.ascii_continue.ensures ∙ ascii_continue_lem c.args.c c.if-c-lt128.true

-- the static is the table of specs/, number for number
pub lookup-requires : goal.lookup-requires
unfolding continue_ranges
lookup-requires c = continue_ordered

pub returns : goal.returns
unfolding continue_ranges
returns c = c.lookup.ensures

pub returns-then-is_common : goal.returns-then-is_common
returns-then-is_common c = sym (start_continues c.args.c (c.is_common.ensures c.if-is_common.true))
