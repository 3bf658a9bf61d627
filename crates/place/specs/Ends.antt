-- A line's end by its characters: with which character it ends, and before which it stands.
use Rattle.std.specs.Prelude.{ℕ, ◌≡◌, refl, Bool, true, false, cond, not, ◌&&◌, ◌||◌, List, ◌∷◌, eqb, ltb}
use Rattle.utf8.specs.Chars.{'carriage_return, 'newline}
use Rattle.place.specs.Place.{ends, line_end, starts_newline}

-- with an LF, be it alone or after a CR; with a CR where no LF follows
pub ends_by : (c : ℕ) (cs : List ℕ) → ends c cs ≡ (eqb c 'newline || (eqb c 'carriage_return && not (starts_newline cs)))
unfolding ends line_end
ends_by c cs = go (eqb c 'newline) (eqb c 'carriage_return) (starts_newline cs)
  where
    go : (x y z : Bool) → eqb (cond x 1 (cond y (cond z 2 1) 0)) 1 ≡ (x || (y && not z))
    go true y z = refl
    go false true true = refl
    go false true false = refl
    go false false z = refl

-- before an LF and before a CR
pub stands_by_lem : (c : ℕ) (cs : List ℕ) → ltb 0 (line_end (c ∷ cs)) ≡ (eqb c 'newline || eqb c 'carriage_return)
unfolding line_end
stands_by_lem c cs = go (eqb c 'newline) (eqb c 'carriage_return) (starts_newline cs)
  where
    go : (x y z : Bool) → ltb 0 (cond x 1 (cond y (cond z 2 1) 0)) ≡ (x || y)
    go true y z = refl
    go false true true = refl
    go false true false = refl
    go false false z = refl

-- the three cases: LF,
pub newline_ends : (c : ℕ) (cs : List ℕ) → eqb c 'newline ≡ true → ends c cs ≡ true
newline_ends c cs e = rw (ends_by c cs, e)

-- CR LF, which is one end, after both,
pub pair_ends : (cs : List ℕ) → (ends 'carriage_return ('newline ∷ cs) ≡ false) × (ends 'newline cs ≡ true)
unfolding ends line_end starts_newline
pair_ends cs = (refl, refl)

-- and a lone CR
pub return_ends : (cs : List ℕ) → starts_newline cs ≡ false → ends 'carriage_return cs ≡ true
return_ends cs e = rw (ends_by 'carriage_return cs, e)
