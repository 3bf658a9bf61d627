-- What of a buffer is said.
use Rattle.std.specs.Prelude.{ℕ, cond, List, [], ltb, length, take, Some, None}
use Rattle.std.specs.declared.option.Option.{Option}
use Rattle.text.specs.Bytes.{bytes}

-- the bytes up to where they came, none where that is beyond the buffer; or other words for what did not fit
abbrev pub came_of : List ℕ → Option ℕ → List ℕ → List ℕ
came_of buffer None full = full
came_of buffer (Some n) full = cond (ltb (length buffer) n) [] (take n buffer)

unfoldable pub no_room : List ℕ
no_room = bytes "does not fit"
