-- Numbers that are tested one after another.
use Rattle.std.specs.Prelude.{ℕ, ◌+◌, ◌<◌, ◌≤◌, ◌≡◌, true, false, List, length, get_or, drop}
use Rattle.std.proofs.Common.{add-one, drop-cons, drop_of_length-le, le-leb}
use Rattle.std.proofs.lemmas.Bool.{lt-leb}
use Rattle.sheet.specs.Sheet.{within}

module _ (most : ℕ) (s : List ℕ) (i : ℕ) where
  pub within-next : i < length s → get_or s i 0 ≤ most → within most (drop (i + 1) s) ≡ within most (drop i s)
  unfolding within
  within-next h m = rw (add-one i, drop-cons s i 0 h, within, le-leb (get_or s i 0) most m)

  pub within_above : i < length s → most < get_or s i 0 → false ≡ within most (drop i s)
  unfolding within
  within_above h m = rw (drop-cons s i 0 h, within, lt-leb (get_or s i 0) most m)

  pub within-end : length s ≤ i → true ≡ within most (drop i s)
  unfolding within
  within-end h = rw (drop_of_length-le s h)
