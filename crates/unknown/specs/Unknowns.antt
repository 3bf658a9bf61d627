-- WHICH IS WHICH, said of the characters alone. 02, E3: "half a symbol (`.`, `~`, `-`, `/`, `@`, or `=>@` without L or R) against a character that starts nothing."
use Rattle.std.specs.Prelude.{ℕ, Bool, ◌&&◌, ◌||◌, cond, false, not, true, List, [], ◌∷◌, eqb}
use Rattle.utf8.specs.Chars.{'!, '#, '*, '-, '/, ':, '=, '>, 'L, 'R, 'at, 'backtick, 'dot, 'dquote, 'quote, '~}
use Rattle.unicode_xid.specs.Identifier.{is_identifier_start}
use Rattle.unicode_xid.specs.Whitespace.{is_whitespace}
use Rattle.record.specs.Codes.{among}
use Rattle.record.specs.Numbers.{code_number}
use Rattle.record.specs.declared.Code.TheVariants.{HalfSymbol, StrayCharacter}
use Rattle.record.specs.declared.Kind.{Kind}
use Rattle.scan.specs.IfNext.{if_next}
use Rattle.reading.specs.Symbols.{singles}

-- another character than k stands next, or none
abbrev pub without : ℕ → List ℕ → Bool
without k cs = if_next k cs false true

-- "`@`, or `=>@` without L or R": of what stands after the `@`, after `=>`, and after `=`
abbrev pub half_look : List ℕ → Bool
half_look cs = without 'L cs && without 'R cs

unfoldable pub half_arrow : List ℕ → Bool
half_arrow [] = false
half_arrow (c ∷ cs) = cond (eqb c 'at) (half_look cs) false

unfoldable pub half_equals : List ℕ → Bool
half_equals [] = false
half_equals (c ∷ cs) = cond (eqb c '>) (half_arrow cs) false

-- half a symbol stands here; a `/` is one where it starts no comment
unfoldable pub is_half : List ℕ → Bool
is_half [] = false
is_half (c ∷ cs) =
    cond (eqb c 'dot) (without 'dot cs)
    (cond (eqb c '~) (without '~ cs)
    (cond (eqb c '-) (without '> cs)
    (cond (eqb c '/) (without '/ cs && without '* cs)
    (cond (eqb c 'at) (half_look cs)
    (cond (eqb c '=) (half_equals cs) false)))))

-- a character that starts something: a symbol of one character, a longer one, a literal, an attribute or a comment, a gap, a word
unfoldable pub firsts : List (ℕ × Kind) → List ℕ
firsts [] = []
firsts (k ∷ ks) = k.0 ∷ firsts ks

unfoldable pub longer : List ℕ
longer = '! ∷ ': ∷ 'dot ∷ '= ∷ 'at ∷ '~ ∷ 'backtick ∷ 'quote ∷ 'dquote ∷ '/ ∷ '- ∷ '# ∷ []

unfoldable pub is_stray : List ℕ → Bool
is_stray [] = false
is_stray (c ∷ cs) = not (among c (firsts singles) || (among c longer || (is_whitespace c || is_identifier_start c)))

-- the code of what is unknown here; 0 where it is neither
unfoldable pub unknown_of : List ℕ → ℕ
unknown_of cs = cond (is_half cs) (code_number HalfSymbol) (cond (is_stray cs) (code_number StrayCharacter) 0)
