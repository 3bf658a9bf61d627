-- Lists that stand in a local, and their records copied out as numbers, five to a record.
use Rattle.std.specs.Prelude.{ℕ, cond, List, ltb, length}
use Rattle.record.specs.Records.{over}

-- how many records a local list has room for
abbrev pub list_room : ℕ
list_room = 32768

-- the highest work limit
abbrev pub highest_limit : ℕ
highest_limit = 18446744073709551615

-- the new numbers over the old ones; where they are more than the list has room for, it is left as it was
unfoldable pub fitted : List ℕ → List ℕ → List ℕ
fitted new old = cond (ltb (length old) (length new)) old (over new old)
