-- What a gap holds, said without its reader. 01: "Gaps: whitespace; `//` up to but not including newline or end; nested `/* */`."
use Rattle.std.specs.Prelude.{suc, ℕ, Bool, ◌&&◌, cond, false, not, true, List, [], ◌++◌, ◌∷◌, ◌≡◌, eqb}
use Rattle.utf8.specs.Chars.{'*, '/, 'newline}
use Rattle.unicode_xid.specs.Whitespace.{is_whitespace}
use Rattle.scan.specs.IfNext.{if_next}

-- the two characters of a mark: a star and a slash, or a slash and a star
unfoldable pub is_mark : ℕ → List ℕ → Bool
is_mark c cs = cond (eqb c '*) (if_next '/ cs true false) (cond (eqb c '/) (if_next '* cs true false) false)

-- The rest of a nested comment in which d comments are open, from left to right: star and slash close one, and the last such mark is the end;
-- slash and star open one more; any other character is passed. 01: "After a nested open or close, neither its star nor its slash starts
-- another mark": the two are passed together.
pub data Comment : ℕ → List ℕ → Type 0 where
  ends : Comment 1 ('* ∷ '/ ∷ [])
  closes : {d : ℕ} {xs : List ℕ} → Comment (suc d) xs → Comment (suc (suc d)) ('* ∷ '/ ∷ xs)
  opens : {d : ℕ} {xs : List ℕ} → Comment (suc d) xs → Comment d ('/ ∷ '* ∷ xs)
  passes : {d : ℕ} {xs : List ℕ} (c : ℕ) → is_mark c xs ≡ false → Comment d xs → Comment d (c ∷ xs)

-- no character is a newline
unfoldable pub one_line : List ℕ → Bool
one_line [] = true
one_line (c ∷ cs) = not (eqb c 'newline) && one_line cs

-- a newline or the end comes first
unfoldable pub line_over : List ℕ → Bool
line_over [] = true
line_over (c ∷ cs) = eqb c 'newline

-- The characters of a gap, before the characters rest of the text: nothing; a whitespace character; a comment to the end of its line, ys
-- without the slashes; a nested comment, ys without the mark that opens it; and then the same again.
pub data Blank (rest : List ℕ) : List ℕ → Type 0 where
  nothing : Blank rest []
  white : {xs : List ℕ} (c : ℕ) → is_whitespace c ≡ true → Blank rest xs → Blank rest (c ∷ xs)
  line : {xs : List ℕ} (ys : List ℕ) → one_line ys ≡ true → line_over (xs ++ rest) ≡ true → Blank rest xs → Blank rest ('/ ∷ '/ ∷ ys ++ xs)
  block : {xs : List ℕ} (ys : List ℕ) → Comment 1 ys → Blank rest xs → Blank rest ('/ ∷ '* ∷ ys ++ xs)
