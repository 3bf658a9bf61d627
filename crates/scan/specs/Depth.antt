-- How deep block comments go. 02, E4: "The reader of a block comment shall answer its end and its greatest depth, 1 for a plain one, and whoever
-- calls it passes that on". (Said of the comment's marks alone, without the reader's state: spans/specs/Depths.)
use Rattle.std.specs.Prelude.{◌+◌, suc, zero, ℕ, cond, false, true, List, [], ◌∷◌, eqb, ltb}
use Rattle.utf8.specs.Chars.{'*, '/}
use Rattle.utf8.specs.Utf8.{width_of}
use Rattle.scan.specs.Readers.{com_done, com_step, depth_of}
use Rattle.scan.specs.declared.Com.{Com}
use Rattle.scan.specs.declared.Com.TheVariants.{Open}
use Rattle.scan.specs.declared.Turn.{Turn}
use Rattle.scan.specs.declared.Turn.TheVariants.{Fail, Pass, Stop}

-- the greater of two
abbrev pub deeper : ℕ → ℕ → ℕ
deeper a b = cond (ltb a b) b a

-- how many comments are open at most, up to the end of the comment or of the text, if m were at most till now
unfoldable pub deepest : Com → List ℕ → ℕ → ℕ
deepest st [] m = m
deepest st (c ∷ cs) m = elim (com_done (com_step st c)) [ true ↦ m | false ↦ deepest (com_step st c) cs (deeper m (depth_of (com_step st c))) ]

-- after the slash and the star of a comment
abbrev pub comment_depth : List ℕ → ℕ
comment_depth cs = deepest (Open 1) cs 1

-- after a slash: of the block comment that starts there; "No block comment is 0"
unfoldable pub slash_depth : List ℕ → ℕ
slash_depth [] = 0
slash_depth (c ∷ cs) = cond (eqb c '*) (comment_depth cs) 0

-- of the block comment that the character c starts
abbrev pub cover_depth : ℕ → List ℕ → ℕ
cover_depth c cs = cond (eqb c '/) (slash_depth cs) 0

-- the greatest of those that a walk passes, if d was the greatest till now. A walk sees each character that no other covers: so what looks like a
-- comment in a string or a line comment is none.
module _ (see : ℕ → ℕ → List ℕ → ℕ → ℕ → Turn) where
  unfoldable pub depth_from : ℕ → List ℕ → ℕ → ℕ → ℕ → ℕ
  depth_from k [] b at d = d
  depth_from zero (c ∷ cs) b at d =
      elim (see b c cs at (at + width_of c)) [
        | Stop ↦ d
        | Fail r p m ↦ d
        | Pass p m b' ↦ depth_from m cs b' (at + width_of c) (deeper d (cover_depth c cs))
      ]
  depth_from (suc k) (c ∷ cs) b at d = depth_from k cs b (at + width_of c) d

  abbrev pub walk_depth : List ℕ → ℕ → ℕ
  walk_depth cs at = depth_from 0 cs 0 at 0
