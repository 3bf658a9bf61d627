-- What a buffer holds after bytes were put into it: all of them, or, where they do not fit, none.
use Rattle.std.specs.Prelude.{ℕ, ◌+◌, cond, List, [], ◌∷◌, ◌++◌, ◌≡◌, refl, ltb, drop, length, take, Option, Some, None}

-- how far the bytes came, and what the buffer holds
pub record Laid : Type 0 where
  pub to : Option ℕ
  pub held : List ℕ

-- the bytes l at a place of the buffer d, and all others as they were; what does not fit is answered, not cut, and nothing is put after it
unfoldable pub lay : List ℕ → Option ℕ → List ℕ → Laid
lay d None l = record { to = None; held = d }
lay d (Some at) l =
    cond (ltb (length d) (at + length l))
    (record { to = None; held = d })
    (record { to = Some (at + length l); held = take at d ++ l ++ drop (at + length l) d })

-- several, one after another: as many whole ones as fit
unfoldable pub lay_all : List ℕ → Option ℕ → List (List ℕ) → Laid
lay_all d from [] = record { to = from; held = d }
lay_all d from (l ∷ ls) = lay_all (lay d from l).held (lay d from l).to ls

pub lay-append : (d : List ℕ) (from : Option ℕ) (ls ms : List (List ℕ)) → lay_all d from (ls ++ ms) ≡ lay_all (lay_all d from ls).held (lay_all d from ls).to ms
unfolding lay_all
lay-append d from [] ms = refl
lay-append d from (l ∷ ls) ms = lay-append (lay d from l).held (lay d from l).to ls ms
