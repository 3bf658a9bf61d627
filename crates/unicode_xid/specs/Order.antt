-- The two tables: that both are ascending and disjoint, and that start lies inside continue, is one test that antt computes.
-- Assumes nothing.
use Rattle.std.specs.Prelude.{◌≡◌, refl, true, ◌&&◌, ℕ}
use Rattle.unicode_xid.specs.Tables.{start_ranges, continue_ranges}
use Rattle.unicode_xid.specs.Ranges.{ordered, skip, inside}
use Rattle.unicode_xid.specs.Identifier.{is_identifier_start, is_identifier_continue}
use Rattle.utf8.specs.Laws.{both}
use Rattle.unicode_xid.specs.Laws.{within}

test : (ordered 0 start_ranges && ordered 0 continue_ranges) && inside start_ranges continue_ranges ≡ true
unfolding start_ranges continue_ranges ordered inside skip
test = refl

pub start-ordered : ordered 0 start_ranges ≡ true
start-ordered = (both (ordered 0 start_ranges) _ (both _ (inside start_ranges continue_ranges) test).0).0

pub continue_ordered : ordered 0 continue_ranges ≡ true
continue_ordered = (both (ordered 0 start_ranges) _ (both _ (inside start_ranges continue_ranges) test).0).1

-- an identifier may go on with each character that it may start with
pub start_continues : (c : ℕ) → is_identifier_start c ≡ true → is_identifier_continue c ≡ true
start_continues c = within start_ranges continue_ranges c (both (ordered 0 start_ranges && ordered 0 continue_ranges) _ test).1
