-- What a call from another language leaves: the shape that all such functions share.
use Rattle.std.specs.Prelude.{ℕ, ◌<◌, ◌≤◌, cond, List, ◌≡◌, ltb, length}
use Rattle.std.proofs.Math.Path.{refl}
use Rattle.std.proofs.Common.{le-ltb, lt-ltb}
use Rattle.record.specs.Numbers.{code_number}
use Rattle.record.specs.Records.{over}
use Rattle.record.specs.declared.Code.TheVariants.{NoRoom}

-- its result, what the lent slice holds, and what `answer` holds
pub record Left : Type 0 where
  pub result : ℕ
  pub lent : List ℕ
  pub numbers : List ℕ

-- With fewer numbers in `answer` than are told, "nothing is written, the result is 14"; else they are its first numbers, and those
-- beyond them stay
unfoldable pub tell : ℕ → ℕ → List ℕ → List ℕ → List ℕ → List ℕ → Left
tell size code told new old answer =
    cond (ltb (length answer) size)
    (record { result = code_number NoRoom; lent = old; numbers = answer })
    (record { result = code; lent = new; numbers = over told answer })

-- what a function's contract says of a call: its result, the lent slice and the answer afterwards
abbrev pub Leaves : Left → ℕ → List ℕ → List ℕ → Type 0
Leaves l r lent numbers = (r ≡ l.result) × (lent ≡ l.lent) × (numbers ≡ l.numbers)

module _ (size code : ℕ) (told new old answer : List ℕ) where
  pub short : length answer < size → Leaves (tell size code told new old answer) (code_number NoRoom) old answer
  unfolding tell
  short h = rw (lt-ltb (length answer) size h) (refl, refl, refl)

  pub whole : size ≤ length answer → (r : ℕ) (lent numbers : List ℕ) → r ≡ code → lent ≡ new → numbers ≡ over told answer
      → Leaves (tell size code told new old answer) r lent numbers
  unfolding tell
  whole h r lent numbers a b c = rw (le-ltb (length answer) size h) (a, b, c)
