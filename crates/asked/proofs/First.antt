-- A difference that a `match` sends to its last arm is the first of any two.
use mathlib.Core.Path.{◌≡◌, refl}
use Rattle.recorded.specs.declared.Difference.{Difference}
use Rattle.recorded.specs.declared.Difference.TheVariants.{Length, Number, Same}
use Rattle.asked.specs.Answers.{onward}

pub is-first : (d e : Difference) → (d ≡ Same → ⊥) → d ≡ onward d e
is-first Same e n = absurd (n refl)
is-first (Length a b) e n = refl
is-first (Number at a b) e n = refl
