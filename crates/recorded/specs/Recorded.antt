-- Where an answer first differs from what is recorded.
use Rattle.std.specs.Prelude.{◌+◌, ℕ, cond, List, [], ◌∷◌, eqb, length}
use Rattle.recorded.specs.declared.Difference.{Difference}
use Rattle.recorded.specs.declared.Difference.TheVariants.{Length, Number, Same}

-- the first number that differs, where the first of all has a place; what one of two lists has alone is not looked at
unfoldable pub differ_from : ℕ → List ℕ → List ℕ → Difference
differ_from at [] xs = Same
differ_from at (r ∷ rs) [] = Same
differ_from at (r ∷ rs) (a ∷ xs) = cond (eqb r a) (differ_from (at + 1) rs xs) (Number at r a)

-- lists of two lengths differ by that
unfoldable pub differ : ℕ → List ℕ → List ℕ → Difference
differ first rs xs = cond (eqb (length rs) (length xs)) (differ_from first rs xs) (Length (length rs) (length xs))
