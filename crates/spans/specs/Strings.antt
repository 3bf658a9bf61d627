-- WHAT A LITERAL SPANS, said without its reader. 01: "Strings end at the first `"` that isn't escaped by a backslash; 5 exactly if there is none." So do
-- character literals, at the first such `'`, with 6. That their readers do is in proofs/Strings.antt.
use Rattle.std.specs.Prelude.{ℕ, zero, suc, ◌+◌, ◌<◌, Bool, ◌&&◌, not, get_or, length, Ok}
use Rattle.std.proofs.Math.Bool.{false, true}
use mathlib.Core.List.{List, ◌∷◌}
use Rattle.std.proofs.Math.Path.{◌≡◌, ap}
use Rattle.std.proofs.Common.{◌∙◌}
use Rattle.std.proofs.Math.Dec.{eqb}
use Rattle.utf8.specs.Chars.{'backslash}
use Rattle.utf8.specs.Utf8.{width_of}
use Rattle.scan.specs.Until.{until}

-- A character is escaped if the one before it is a backslash that isn't escaped itself. The first one is as is said.
unfoldable pub escaped_from : Bool → List ℕ → ℕ → Bool
escaped_from first cs zero = first
escaped_from first cs (suc i) = eqb (get_or cs i 0) 'backslash && not (escaped_from first cs i)

-- of the characters cs after the opening mark, none before which stands a backslash
abbrev pub escaped : List ℕ → ℕ → Bool
escaped cs i = escaped_from false cs i

-- the mark q stands at the index i, and isn't escaped
pub record Closes (first : Bool) (q : ℕ) (cs : List ℕ) (i : ℕ) : Type 0 where
  pub within : i < length cs
  pub mark : get_or cs i 0 ≡ q
  pub plain : escaped_from first cs i ≡ false

-- and it is the first such
pub record First (first : Bool) (q : ℕ) (cs : List ℕ) (i : ℕ) : Type 0 where
  pub closes : Closes first q cs i
  pub earlier : (j : ℕ) → j < i → Closes first q cs j → ⊥

-- the first mark that isn't escaped has m characters before it; and none has
abbrev pub ClosedAt : ℕ → List ℕ → ℕ → Type 0
ClosedAt q cs m = First false q cs m

abbrev pub NeverClosed : ℕ → List ℕ → Type 0
NeverClosed q cs = (i : ℕ) → Closes false q cs i → ⊥

module _ {S : Type 0} (step : S → ℕ → S) (done : S → Bool) (c : ℕ) (cs : List ℕ) (at n : ℕ) where
  -- a turn of any reader, by the state that it comes to
  pub goes_on : (st st' : S) → step st c ≡ st' → done st' ≡ false → until step done st (c ∷ cs) at n ≡ until step done st' cs (at + width_of c) (n + 1)
  unfolding until
  goes_on st st' e d = let f : done (step st c) ≡ false = ap done e ∙ d in rw (f, until) (rw e)

  pub stops : (st st' : S) → step st c ≡ st' → done st' ≡ true → until step done st (c ∷ cs) at n ≡ Ok (at, n)
  unfolding until
  stops st st' e d = let f : done (step st c) ≡ true = ap done e ∙ d in rw (f, until)
