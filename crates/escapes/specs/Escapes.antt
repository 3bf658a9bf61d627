-- 01's section 'Strings', the reading: what the escapes of a text stand for. Every definition is total on every list of numbers.
use Rattle.std.specs.Prelude.{Result, Ok, Err, ℕ, zero, suc, ◌+◌, ◌-◌, ◌*◌, Bool, false, cond, ◌&&◌, ◌||◌, List, [], ◌∷◌, ◌++◌, ltb, leb, eqb}
use Rattle.utf8.specs.Utf8.{chars}
use Rattle.utf8.specs.Chars.{'backslash, 'dquote, 'n, 'newline, 'r, 'carriage_return, 't, 'tab, '0, 'nul, 'x, 'a, 'f}
use Rattle.record.specs.declared.Refusal.{Refusal}
use Rattle.record.specs.declared.Code.TheVariants.{UnterminatedAsciiEscape, UnrecognizedEscape, TrailingBackslash}
use Rattle.record.specs.Records.{refusal}

-- three more signs
abbrev pub '9 : ℕ
'9 = 57

abbrev pub 'A : ℕ
'A = 65

abbrev pub 'F : ℕ
'F = 70

-- the value of a hexadecimal digit, ASCII only; 16 for any other character
unfoldable pub digit : ℕ → ℕ
digit c =
    cond (leb '0 c && leb c '9) (c - '0)
    (cond (leb 'a c && leb c 'f) (c - 'a + 10)
    (cond (leb 'A c && leb c 'F) (c - 'A + 10)
    16))

-- 01: "`\xHL` only: H octal, L hexadecimal"
abbrev pub octal : ℕ → Bool
octal h = ltb (digit h) 8

abbrev pub hexadecimal : ℕ → Bool
hexadecimal l = ltb (digit l) 16

-- what stands at a place of a text: a byte of the expansion, and how many bytes of the text make it; or a refusal
abbrev pub Read : Type 0
Read = Result (ℕ × ℕ) Refusal

-- what the characters after `\x` make of it, where the x stands at a place: a byte that takes four bytes of the text
-- 01: "Both characters must exist before either is judged."
unfoldable pub ascii_escape : List ℕ → ℕ → Read
ascii_escape [] x = Err (refusal UnterminatedAsciiEscape x)
ascii_escape (h ∷ []) x = Err (refusal UnterminatedAsciiEscape (x + 1))
ascii_escape (h ∷ l ∷ cs) x =
    cond (octal h && hexadecimal l) (Ok (16 * digit h + digit l, 4)) (Err (refusal UnrecognizedEscape x))

-- what the characters after a backslash make of it, where the backslash stands at a place
-- 01: "`\\ \" \n \r \t \0 \xHL` only"; "In Rust a lone last backslash panics; here it is 16"
unfoldable pub escape : List ℕ → ℕ → Read
escape [] at = Err (refusal TrailingBackslash at)
escape (c ∷ cs) at =
    cond (eqb c 'backslash) (Ok ('backslash, 2))
    (cond (eqb c 'dquote) (Ok ('dquote, 2))
    (cond (eqb c 'n) (Ok ('newline, 2))
    (cond (eqb c 'r) (Ok ('carriage_return, 2))
    (cond (eqb c 't) (Ok ('tab, 2))
    (cond (eqb c '0) (Ok ('nul, 2))
    (cond (eqb c 'x) (ascii_escape cs (at + 1))
    (Err (refusal UnrecognizedEscape (at + 1)))))))))

-- what the byte b stands for, with the bytes s after it: itself, or what the characters after a backslash make of it.
-- In UTF-8 the byte of `\` is no part of another character, so that this is the reading of characters, as the Rust's: the theorem
-- `spelled` (Theorems) says so.
unfoldable pub stands : ℕ → List ℕ → ℕ → Read
stands b s at = cond (eqb b 'backslash) (escape (chars s) at) (Ok (b, 1))

-- the bytes of an expansion, or a refusal
pub data Outcome : Type 0 where
  gives : List ℕ → Outcome
  refused : Refusal → Outcome

abbrev pub prepend : List ℕ → Outcome → Outcome
prepend p (gives l) = gives (p ++ l)
prepend p (refused r) = refused r

-- reading from the left: the expansion of a text whose first byte has a place, after k bytes of it
unfoldable pub expand_from : ℕ → List ℕ → ℕ → Outcome
expand_from k [] at = gives []
expand_from (suc k) (b ∷ s) at = expand_from k s (at + 1)
expand_from zero (b ∷ s) at =
    elim (stands b s at) [ Ok (v, w) ↦ prepend (v ∷ []) (expand_from (w - 1) s (at + 1)) | Err r ↦ refused r ]

-- the expansion of a text. 01: "Places carry the shift", here `idx0`
unfoldable pub expand : List ℕ → ℕ → Outcome
expand s idx0 = expand_from 0 s idx0

-- whether a text has a byte
unfoldable pub has_byte : ℕ → List ℕ → Bool
has_byte b [] = false
has_byte b (x ∷ s) = eqb x b || has_byte b s
