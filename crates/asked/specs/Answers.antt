-- A recorded answer is its first numbers and what comes after them. It is compared in this order.
use Rattle.std.specs.Prelude.{ℕ, List, drop, take}
use Rattle.recorded.specs.Recorded.{differ}
use Rattle.recorded.specs.declared.Difference.{Difference}
use Rattle.recorded.specs.declared.Difference.TheVariants.{Length, Number, Same}

-- the first of two differences
abbrev pub onward : Difference → Difference → Difference
onward Same e = e
onward (Length r a) e = Length r a
onward (Number at r a) e = Number at r a

-- n numbers first
unfoldable pub answer_differs : ℕ → List ℕ → List ℕ → List ℕ → Difference
answer_differs n recorded first more = onward (differ 0 (take n recorded) first) (differ n (drop n recorded) more)
