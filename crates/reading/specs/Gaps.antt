-- Gaps. 01: "Gaps: whitespace; // up to but not including newline or end; nested /* */."
use Rattle.std.specs.Prelude.{◌+◌, ℕ, cond, List, [], ◌∷◌, eqb, Ok}
use Rattle.utf8.specs.Chars.{'*, '/}
use Rattle.utf8.specs.Utf8.{width_of}
use Rattle.unicode_xid.specs.Whitespace.{is_whitespace}
use Rattle.scan.specs.Depth.{walk_depth}
use Rattle.scan.specs.Seek.{block_comment, line_skip, skip_more}
use Rattle.scan.specs.Walk.{turn_of, walk}
use Rattle.scan.specs.Shapes.{Skip}
use Rattle.scan.specs.declared.Turn.{Turn}
use Rattle.scan.specs.declared.Turn.TheVariants.{Pass, Stop}

-- after a slash at o: a comment, or no gap
unfoldable pub comment_turn : ℕ → List ℕ → ℕ → Turn
comment_turn o [] at = Stop
comment_turn o (c ∷ cs) at =
    cond (eqb c '/) (turn_of 0 (line_skip (c ∷ cs) at)) (cond (eqb c '*) (turn_of 0 (skip_more 1 (block_comment o cs (at + width_of c)))) Stop)

-- what a character does: it starts a comment, is whitespace, or ends the gap
unfoldable pub gap_turn : ℕ → ℕ → List ℕ → ℕ → ℕ → Turn
gap_turn b c cs at next = cond (eqb c '/) (comment_turn at cs next) (cond (is_whitespace c) (Pass next 0 0) Stop)

abbrev pub gap_last : ℕ → ℕ → ℕ → Skip
gap_last b at n = Ok (at, n)

-- what stands before a token, from a place on
unfoldable pub gap : List ℕ → ℕ → Skip
gap cs at = walk gap_turn gap_last 0 cs at

-- the greatest depth of the block comments in it
abbrev pub gap_depth_of : List ℕ → ℕ → ℕ
gap_depth_of cs at = walk_depth gap_turn cs at
