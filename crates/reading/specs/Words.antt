-- Words. 01: "Words: _, use, thirteen keywords, else MacroId if < follows at once, else Id. A keyword before < stays a keyword."
use Rattle.std.specs.Prelude.{◌+◌, ℕ, Bool, ◌&&◌, cond, false, List, [], ◌∷◌, eqb, drop, Ok, Err}
use Rattle.utf8.specs.Chars.{'#, '<, 'a, 'b, 'c, 'd, 'e, 'f, 'g, 'h, 'i, 'l, 'm, 'n, 'o, 'p, 'r, 's, 't, 'u, 'underscore, 'w, 'x, 'y}
use Rattle.utf8.specs.Utf8.{width_of}
use Rattle.record.specs.declared.Kind.{Kind}
use Rattle.record.specs.declared.Kind.TheVariants.{Dyn, Else, Enum, Extern, For, Grammar, Id, If, In, MacroId, Match, Mut, Pub, Underscore, Use, Where, «Type»}
use Rattle.record.specs.declared.Reading.{Reading}
use Rattle.scan.specs.IfNext.{if_next}
use Rattle.scan.specs.Seek.{seek}
use Rattle.scan.specs.Shapes.{Found}
use Rattle.scan.specs.Shapes.{Skip}
use Rattle.scan.specs.declared.Sought.TheVariants.{Word}
use Rattle.code.specs.Code.{code_depth_of, code_end}
use Rattle.reading.specs.Answers.{coded, deliver, fail, more, plain}
use Rattle.reading.specs.declared.Call.{Call}

-- the characters cs, from the place at up to the place p, are those of the word ks
unfoldable pub spells : List ℕ → List ℕ → ℕ → ℕ → Bool
spells [] cs at p = eqb at p
spells (k ∷ ks) [] at p = false
spells (k ∷ ks) (c ∷ cs) at p = eqb c k && spells ks cs (at + width_of c) p

-- _ and use; and "r#_ is Underscore; no other hashed word is special"
abbrev pub underscore : List ℕ
underscore = 'underscore ∷ []

abbrev pub hashed_underscore : List ℕ
hashed_underscore = 'r ∷ '# ∷ 'underscore ∷ []

abbrev pub use_word : List ℕ
use_word = 'u ∷ 's ∷ 'e ∷ []

-- the thirteen keywords: enum extern grammar match else if mut pub in type where for dyn
unfoldable pub keywords : List (List ℕ × Kind)
keywords =
    ('e ∷ 'n ∷ 'u ∷ 'm ∷ [], Enum) ∷ ('e ∷ 'x ∷ 't ∷ 'e ∷ 'r ∷ 'n ∷ [], Extern)
    ∷ ('g ∷ 'r ∷ 'a ∷ 'm ∷ 'm ∷ 'a ∷ 'r ∷ [], Grammar) ∷ ('m ∷ 'a ∷ 't ∷ 'c ∷ 'h ∷ [], Match)
    ∷ ('e ∷ 'l ∷ 's ∷ 'e ∷ [], Else) ∷ ('i ∷ 'f ∷ [], If) ∷ ('m ∷ 'u ∷ 't ∷ [], Mut) ∷ ('p ∷ 'u ∷ 'b ∷ [], Pub)
    ∷ ('i ∷ 'n ∷ [], In) ∷ ('t ∷ 'y ∷ 'p ∷ 'e ∷ [], «Type») ∷ ('w ∷ 'h ∷ 'e ∷ 'r ∷ 'e ∷ [], Where)
    ∷ ('f ∷ 'o ∷ 'r ∷ [], For) ∷ ('d ∷ 'y ∷ 'n ∷ [], Dyn) ∷ []

-- "use, => and =>? take code": a token with code from the place from on, up to where the code ends
-- and whose comments go d deep
abbrev pub code_token : Kind → ℕ → ℕ → Skip → ℕ → Call
code_token kind o from (Ok (p, m)) d = coded d (deliver kind o from p p m)
code_token kind o from (Err (r, p, m)) d = fail r p m

unfoldable pub use_token : Reading → ℕ → List ℕ → ℕ → Call
use_token rd o rest p = code_token Use o p (code_end rd o rest p) (code_depth_of rd rest p)

-- no keyword: "MacroId if < follows at once, else Id"
unfoldable pub id_token : ℕ → List ℕ → ℕ → Call
id_token o rest p = if_next '< rest (deliver MacroId o o p p 0) (deliver Id o o p p 0)

-- a keyword of the table, whatever follows it, or none
unfoldable pub keyword_token : List (List ℕ × Kind) → List ℕ → ℕ → List ℕ → ℕ → Call
keyword_token [] cs o rest p = id_token o rest p
keyword_token (k ∷ ks) cs o rest p = cond (spells k.0 cs o p) (plain k.1 o p 0) (keyword_token ks cs o rest p)

-- the word from o to p: the characters cs stand at o, the characters rest at p
unfoldable pub word_token : Reading → List ℕ → ℕ → List ℕ → ℕ → Call
word_token rd cs o rest p =
    cond (spells underscore cs o p) (plain Underscore o p 0)
    (cond (spells hashed_underscore cs o p) (plain Underscore o p 0)
    (cond (spells use_word cs o p) (use_token rd o rest p) (keyword_token keywords cs o rest p)))

-- the rest of a word that starts at o, where the characters whole stand; the characters cs stand at at
abbrev pub identifier_by : Reading → List ℕ → ℕ → List ℕ → Found → Call
identifier_by rd whole o cs (Ok (p, m)) = more m (word_token rd whole o (drop m cs) p)
identifier_by rd whole o cs (Err (p, m)) = more m (word_token rd whole o (drop m cs) p)

unfoldable pub identifierish : Reading → List ℕ → ℕ → List ℕ → ℕ → Call
identifierish rd whole o cs at = identifier_by rd whole o cs (seek Word cs at)
