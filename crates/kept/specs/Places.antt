-- THE THREE PLACES where the old reading and the kept one differ. 02, E5: "nothing is passed after an attribute's bracket, a regex in code needs its true number of hashes with
-- its 5 placed at its `r`, and in code a closed quoted literal, or a quote and one character, may end the text". Whether a call meets one of them; the theorem is in Theorems.
use Rattle.std.specs.Prelude.{◌+◌, suc, zero, ℕ, Bool, ◌&&◌, ◌||◌, cond, false, not, true, List, [], ◌∷◌, eqb, drop, length, Ok, Err}
use Rattle.utf8.specs.Chars.{'#, '=, '>, '?, 'at, 'quote, 'r}
use Rattle.utf8.specs.Utf8.{width_of}
use Rattle.unicode_xid.specs.Identifier.{is_identifier_start}
use Rattle.record.specs.declared.Reading.TheVariants.{Kept, Old}
use Rattle.scan.specs.IfNext.{if_next}
use Rattle.scan.specs.Seek.{seek}
use Rattle.scan.specs.Until.{left}
use Rattle.scan.specs.Shapes.{Found}
use Rattle.scan.specs.Shapes.{Skip}
use Rattle.scan.specs.declared.Sought.TheVariants.{Word}
use Rattle.scan.specs.declared.Turn.TheVariants.{Fail, Pass, Stop}
use Rattle.code.specs.Code.{code_turn, quote_skip}
use Rattle.reading.specs.Attribute.{attempt}
use Rattle.reading.specs.Gaps.{gap}
use Rattle.reading.specs.Next.{next}
use Rattle.reading.specs.Words.{spells, use_word}
use Rattle.reading.specs.Shapes.{Attempt}
use Rattle.reading.specs.declared.What.{What}
use Rattle.reading.specs.declared.What.TheVariants.{End, Error, Got}

-- an attribute followed by a character; the characters cs stand after its hash
unfoldable pub some : List ℕ → Bool
some [] = false
some (c ∷ cs) = true

abbrev pub followed : List ℕ → Attempt → Bool
followed cs (Ok (p, m)) = some (drop m cs)
followed cs (Err (p, m)) = false

-- a quoted literal in code that ends the text: its cover passes all the characters cs after its quote
abbrev pub ends_text : List ℕ → Skip → Bool
ends_text cs (Ok (p, m)) = eqb m (length cs)
ends_text cs (Err (r, p, m)) = false

-- what the character c of code starts: such a literal, or an `r#`
unfoldable pub differs : ℕ → List ℕ → ℕ → ℕ → Bool
differs c cs at next = cond (eqb c 'quote) (ends_text cs (quote_skip Kept at cs next)) (cond (eqb c 'r) (if_next '# cs true false) false)

-- whether code meets one: each character that no other covers is seen, with b brackets open; k characters are passed unseen first
unfoldable pub code_meets_from : ℕ → List ℕ → ℕ → ℕ → Bool
code_meets_from k [] b at = false
code_meets_from zero (c ∷ cs) b at =
    differs c cs at (at + width_of c)
    || elim (code_turn Old b c cs at (at + width_of c)) [ Stop ↦ false | Fail r p m ↦ false | Pass p m b' ↦ code_meets_from m cs b' (at + width_of c) ]
code_meets_from (suc k) (c ∷ cs) b at = code_meets_from k cs b (at + width_of c)

abbrev pub code_meets : List ℕ → ℕ → Bool
code_meets cs at = code_meets_from 0 cs 0 at

-- the tokens that take code: after =>, after =, and a word that is `use`
unfoldable pub arrow_meets : List ℕ → ℕ → Bool
arrow_meets [] at = false
arrow_meets (c ∷ cs) at = cond (eqb c 'at) false (cond (eqb c '?) (code_meets cs (at + width_of c)) (code_meets (c ∷ cs) at))

unfoldable pub equals_meets : List ℕ → ℕ → Bool
equals_meets cs at = if_next '= cs false (if_next '> cs (arrow_meets (drop 1 cs) (at + 1)) false)

abbrev pub word_meets_by : List ℕ → ℕ → List ℕ → Found → Bool
word_meets_by whole o cs (Ok (p, m)) = cond (spells use_word whole o p) (code_meets (drop m cs) p) false
word_meets_by whole o cs (Err (p, m)) = cond (spells use_word whole o p) (code_meets (drop m cs) p) false

unfoldable pub word_meets : List ℕ → ℕ → List ℕ → ℕ → Bool
word_meets whole o cs at = word_meets_by whole o cs (seek Word cs at)

-- by the first character c at o of a token; the characters cs stand at next
unfoldable pub token_meets : ℕ → List ℕ → ℕ → ℕ → Bool
token_meets c cs o next =
    cond (eqb c '#) (followed cs (attempt cs next))
    (cond (eqb c '=) (equals_meets cs next) (cond (is_identifier_start c) (word_meets (c ∷ cs) o cs next) false))

unfoldable pub first_meets : List ℕ → ℕ → Bool
first_meets [] o = false
first_meets (c ∷ cs) o = token_meets c cs o (o + width_of c)

-- A CALL MEETS ONE
abbrev pub meets_by : List ℕ → Skip → Bool
meets_by cs (Ok (p, m)) = first_meets (drop m cs) p
meets_by cs (Err (r, p, m)) = false

unfoldable pub meets : List ℕ → ℕ → Bool
meets cs at = meets_by cs (gap cs at)

-- a run makes no further call after a refusal or at the end
abbrev pub further : What → Bool → Bool
further (Got x) b = b
further (Error r) b = true
further End b = true

-- none of the calls of the old reading, one after the other, k at most, from the place at of the text s on, meets one
unfoldable pub calm : ℕ → List ℕ → ℕ → Bool
calm zero s at = true
calm (suc k) s at = not (meets (left s at) at) && further (next Old (left s at) at).what (calm k s (next Old (left s at) at).at)
