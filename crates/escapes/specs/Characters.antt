-- The same reading over characters alone, as the Rust's `char_indices` sees the text: what it pushes onto its `String`.
-- That the bytes of an expansion are these characters is the theorem `spelled` (Theorems).
use Rattle.std.specs.Prelude.{Ok, Err, ℕ, zero, suc, ◌+◌, ◌-◌, cond, List, [], ◌∷◌, eqb}
use Rattle.utf8.specs.Utf8.{chars, width_of}
use Rattle.utf8.specs.Chars.{'backslash}
use Rattle.escapes.specs.Escapes.{Read, escape, Outcome, gives, refused, prepend}

-- what the character c stands for, with the characters cs after it; and how many characters make it
unfoldable pub means : ℕ → List ℕ → ℕ → Read
means c cs at = cond (eqb c 'backslash) (escape cs at) (Ok (c, 1))

-- the characters that a text is expanded to, where its first has a place, after k of its characters
unfoldable pub spell_from : ℕ → List ℕ → ℕ → Outcome
spell_from k [] at = gives []
spell_from (suc k) (c ∷ cs) at = spell_from k cs (at + width_of c)
spell_from zero (c ∷ cs) at =
    elim (means c cs at) [ Ok (v, w) ↦ prepend (v ∷ []) (spell_from (w - 1) cs (at + width_of c)) | Err r ↦ refused r ]

unfoldable pub spell : List ℕ → ℕ → Outcome
spell cs idx0 = spell_from 0 cs idx0

-- an outcome, its bytes as characters
abbrev pub in_characters : Outcome → Outcome
in_characters (gives l) = gives (chars l)
in_characters (refused r) = refused r
