-- A SHEET BEGUN EMPTY ALWAYS HAS A TABLE, whatever it took.
use Rattle.std.specs.Prelude.{ℕ, ◌≤◌, true, List, ◌≡◌, length, take}
use Rattle.std.proofs.Common.{arith, get_or-take, length-take-le, le-leb}
use Rattle.sheet.specs.Adds.{empty_sheet, sheet_size, work_limit}
use Rattle.sheet.specs.Laws.{empty_length, within_these}
use Rattle.sheet.proofs.Theorems.{small_totals, takes-length}
use Rattle.sheet.specs.Totals.{takes}
use Rattle.table.specs.Table.{is_shown}

pub always_shown : (ss : List (List ℕ)) → is_shown (takes ss empty_sheet) ≡ true
unfolding is_shown
always_shown ss =
    let l = takes ss empty_sheet in
    let n : sheet_size ≤ length l = omega (arith, takes-length ss empty_sheet, empty_length) in
    let m = length-take-le 58 l (omega (arith, n)) in
    rw (le-leb sheet_size (length l) n)
    (within_these work_limit (take 58 l) (λ i h. let a = small_totals i (omega (arith, h, m)) ss in rw (get_or-take 58 l i 0 (omega (arith, h, m))) (omega (arith, a))))
