-- What of a gap is whitespace and what is comment, said over the gap's characters alone; no reader is asked. 02, E2: "characters .. in whitespace, in
-- comments". 01: "Gaps: whitespace; `//` up to but not including newline or end; nested `/* */`."
use Rattle.std.specs.Prelude.{◌+◌, ◌-◌, suc, ℕ, cond, List, [], ◌∷◌, eqb, ltb, length, take, Ok, Err, Result}
use Rattle.utf8.specs.Chars.{'*, '/, 'newline}
use Rattle.record.specs.declared.Refusal.{Refusal}
use Rattle.scan.specs.IfNext.{if_next}
use Rattle.scan.specs.Shapes.{Skip}
use Rattle.reading.specs.Blank.{is_mark}
use Rattle.reading.specs.Gaps.{gap, gap_depth_of}

-- where a character of a gap stands: outside comments; in one to the end of its line; in a nested one, of which so many are open; or at the second
-- character of a mark, after which it stands as is told
pub data Stand : Type 0 where
  outside : Stand
  in_line : Stand
  in_block : ℕ → Stand
  second : Stand → Stand

-- a slash outside comments starts one: a nested one before a star, else one to the end of its line
abbrev pub opened : List ℕ → Stand
opened cs = if_next '* cs (second (in_block 1)) in_line

-- after the mark that closes one of d
abbrev pub closed : ℕ → Stand
closed d = cond (ltb d 2) outside (in_block (d - 1))

-- after the character c of a nested comment of which d are open, before the characters cs: a mark's two characters are passed together
abbrev pub nested : ℕ → ℕ → List ℕ → Stand
nested d c cs = cond (is_mark c cs) (second (cond (eqb c '/) (in_block (d + 1)) (closed d))) (in_block d)

-- how many of the characters are of comments
unfoldable pub commented : Stand → List ℕ → ℕ
commented w [] = 0
commented outside (c ∷ cs) = cond (eqb c '/) (suc (commented (opened cs) cs)) (commented outside cs)
commented in_line (c ∷ cs) = cond (eqb c 'newline) (commented outside cs) (suc (commented in_line cs))
commented (in_block d) (c ∷ cs) = suc (commented (nested d c cs) cs)
commented (second w) (c ∷ cs) = suc (commented w cs)

-- of a gap: all its marks are comments' too, and what is left is whitespace (`told-apart`, in Told, says so by what a gap holds)
unfoldable pub comments : List ℕ → ℕ
comments xs = commented outside xs

unfoldable pub whites : List ℕ → ℕ
whites xs = length xs - comments xs

-- the gap from a place on: where it ends, how many of its characters are whitespace and comment, and how deep its comments go, d; or why it does not end, and
-- after how many advances
abbrev pub apart_by : List ℕ → Skip → ℕ → Result (ℕ × ℕ × ℕ × ℕ) (Refusal × ℕ)
apart_by cs (Ok (p, m)) d = Ok (p, whites (take m cs), comments (take m cs), d)
apart_by cs (Err (r, p, m)) d = Err (r, m)

unfoldable pub apart : List ℕ → ℕ → Result (ℕ × ℕ × ℕ × ℕ) (Refusal × ℕ)
apart cs at = apart_by cs (gap cs at) (gap_depth_of cs at)
