-- THE READINGS. 02, E5: "A caller may choose a second, kept reading". 0 is the old reading, 01's; 1 the kept one; "24 UnknownReading for any other choice".
use Rattle.std.specs.Prelude.{ℕ, cond, ◌≡◌, refl, eqb, Option, Some, None}
use Rattle.record.specs.declared.Reading.{Reading}
use Rattle.record.specs.declared.Reading.TheVariants.{Kept, Old}

abbrev pub reading_number : Reading → ℕ
reading_number Old = 0
reading_number Kept = 1

-- the reading that has a number
unfoldable pub reading_of : ℕ → Option Reading
reading_of n = cond (eqb n (reading_number Old)) (Some Old) (cond (eqb n (reading_number Kept)) (Some Kept) None)

-- each reading is the one that its number names
pub reading_again : (rd : Reading) → reading_of (reading_number rd) ≡ Some rd
unfolding reading_of
reading_again Old = refl
reading_again Kept = refl
