-- Where code ends. 01: "`use`, `=>` and `=>?` take code up to an uncovered `,` `;` `)` `]` `}` or the end at balance 0. Brackets, comments,
-- quotes, regexes and strings cover". The characters cs stand at the byte place at.
use Rattle.std.specs.Prelude.{◌+◌, ◌-◌, ℕ, Bool, cond, true, List, [], ◌∷◌, eqb, ltb, drop, Ok, Err}
use Rattle.utf8.specs.Chars.{'#, '*, '/, '[, '], 'backslash, 'brace, 'comma, 'dquote, 'paren, 'quote, 'r, 'semi, 'unbrace, 'unparen}
use Rattle.utf8.specs.Utf8.{width_of}
use Rattle.unicode_xid.specs.Identifier.{is_identifier_start}
use Rattle.record.specs.Records.{refusal}
use Rattle.record.specs.declared.Reading.{Reading}
use Rattle.record.specs.declared.Reading.TheVariants.{Kept, Old}
use Rattle.record.specs.declared.Code.TheVariants.{ExpectedStringLiteral, UnterminatedCharacterLiteral, UnterminatedCode, UnterminatedStringLiteral}
use Rattle.scan.specs.Depth.{walk_depth}
use Rattle.scan.specs.IfNext.{if_next}
use Rattle.scan.specs.Seek.{block_comment, line_skip, regex_skip, seek, skip_more, string_skip, up_to}
use Rattle.scan.specs.Walk.{turn_of, walk}
use Rattle.scan.specs.Shapes.{Found}
use Rattle.scan.specs.Shapes.{Skip}
use Rattle.scan.specs.declared.Sought.TheVariants.{Hashes, Quote, Word}
use Rattle.scan.specs.declared.Turn.{Turn}
use Rattle.scan.specs.declared.Turn.TheVariants.{Pass, Stop}

-- comments, after a slash at o: a line comment from its second slash, a block comment from after its star, or nothing
unfoldable pub slash_skip : ℕ → List ℕ → ℕ → Skip
slash_skip o [] at = Ok (at, 0)
slash_skip o (c ∷ cs) at =
    cond (eqb c '/) (line_skip (c ∷ cs) at) (cond (eqb c '*) (skip_more 1 (block_comment o cs (at + width_of c))) (Ok (at, 0)))

-- ODDITY, where the readings differ. 01: "6 at the opening quote exactly if the text ends before this is done or straight after it". 02, E5: "in code a
-- closed quoted literal, or a quote and one character, may end the text". What is done at the end of the text, after a quoted literal that starts at o:
unfoldable pub quote_last : Reading → ℕ → ℕ → Skip
quote_last Old o at = Err (refusal UnterminatedCharacterLiteral o, at, 0)
quote_last Kept o at = Ok (at, 0)

unfoldable pub quote_end : Reading → ℕ → List ℕ → ℕ → Skip
quote_end rd o [] at = quote_last rd o at
quote_end rd o (c ∷ cs) at = Ok (at, 0)

-- after an opening quote at o and one character. 01: "any one character (`'` too) and, if there, a `'` directly after it"
unfoldable pub one_skip : Reading → ℕ → List ℕ → ℕ → Skip
one_skip rd o [] at = quote_end rd o [] at
one_skip rd o (c ∷ cs) at = cond (eqb c 'quote) (skip_more 1 (quote_end rd o cs (at + width_of c))) (Ok (at, 0))

-- after an opening quote at o and a backslash. 01: "either a backslash, the character after it and all through the next `'` are passed". 02, E5: "a lone
-- last quote or an unclosed escaped literal is still 6"
abbrev pub esc_past : Reading → ℕ → List ℕ → Found → Skip
esc_past rd o cs (Ok (p, m)) = skip_more (m + 1) (quote_end rd o (drop (m + 1) cs) (p + 1))
esc_past rd o cs (Err (p, m)) = Err (refusal UnterminatedCharacterLiteral o, p, m)

unfoldable pub esc_skip : Reading → ℕ → List ℕ → ℕ → Skip
esc_skip rd o [] at = Err (refusal UnterminatedCharacterLiteral o, at, 0)
esc_skip rd o (c ∷ cs) at = skip_more 1 (esc_past rd o cs (seek Quote cs (at + width_of c)))

-- after an opening quote at o
unfoldable pub quote_skip : Reading → ℕ → List ℕ → ℕ → Skip
quote_skip rd o [] at = Err (refusal UnterminatedCharacterLiteral o, at, 0)
quote_skip rd o (c ∷ cs) at =
    cond (eqb c 'backslash) (skip_more 1 (esc_skip rd o cs (at + width_of c))) (skip_more 1 (one_skip rd o cs (at + width_of c)))

-- ODDITY, where the readings differ. 01: "That regex is read with the place of the first hash as its start, so it needs one closing hash fewer; its 5 carries
-- that place". 02, E5: "a regex in code needs its true number of hashes with its 5 placed at its `r`". The letter stands at r:
abbrev pub regex_start : Reading → ℕ → ℕ → ℕ
regex_start Old r first = first
regex_start Kept r first = r

abbrev pub closing_hashes : Reading → ℕ → ℕ
closing_hashes Old m = m - 1
closing_hashes Kept m = m

-- after m hashes of what starts at o: a regex, a word, or neither. 01: "hashes and a word after it are passed whole"; "its 9 the other
-- character's"
unfoldable pub body_skip : Reading → ℕ → ℕ → List ℕ → ℕ → Skip
body_skip rd o m [] p = Err (refusal UnterminatedStringLiteral o, p, 0)
body_skip rd o m (c ∷ cs) p =
    cond (eqb c 'dquote) (skip_more 1 (regex_skip o (closing_hashes rd m) cs (p + width_of c)))
    (cond (is_identifier_start c) (skip_more 1 (up_to (seek Word cs (p + width_of c)))) (Err (refusal ExpectedStringLiteral p, p, 0)))

-- after the letter r: its hashes, and what stands after them
abbrev pub hash_past : Reading → ℕ → List ℕ → Found → Skip
hash_past rd o cs (Ok (p, m)) = skip_more m (body_skip rd o m (drop m cs) p)
hash_past rd o cs (Err (p, m)) = Err (refusal UnterminatedStringLiteral o, p, m)

abbrev pub hash_skip : Reading → ℕ → List ℕ → ℕ → Skip
hash_skip rd o cs at = hash_past rd o cs (seek Hashes cs at)

-- 01: "In code, every letter `r`, even inside a word, is tested for a following `#`"
unfoldable pub r_skip : Reading → ℕ → List ℕ → ℕ → Skip
r_skip rd r cs at = if_next '# cs (hash_skip rd (regex_start rd r at) cs at) (Ok (at, 0))

-- 01: "Any closer answers any opener."
unfoldable pub opens : ℕ → Bool
opens c = cond (eqb c 'paren) true (cond (eqb c '[) true (eqb c 'brace))

unfoldable pub closes : ℕ → Bool
closes c = cond (eqb c 'unparen) true (cond (eqb c ']) true (eqb c 'unbrace))

-- what the character c at the place at does, with b brackets open; the characters cs after it stand at next. 01: "`r"` there opens a string"
unfoldable pub code_turn : Reading → ℕ → ℕ → List ℕ → ℕ → ℕ → Turn
code_turn rd b c cs at next =
    cond (eqb c 'dquote) (turn_of b (string_skip at cs next))
    (cond (eqb c 'quote) (turn_of b (quote_skip rd at cs next))
    (cond (eqb c 'r) (turn_of b (r_skip rd at cs next))
    (cond (eqb c '/) (turn_of b (slash_skip at cs next))
    (cond (opens c) (Pass next 0 (b + 1))
    (cond (ltb 0 b) (cond (closes c) (Pass next 0 (b - 1)) (Pass next 0 b))
    (cond (eqb c 'comma) Stop
    (cond (eqb c 'semi) Stop
    (cond (closes c) Stop (Pass next 0 b)))))))))

-- 01: "`=>` at the end of text is 8; so is a bracket still open there, at the token's start"
abbrev pub code_last : ℕ → ℕ → ℕ → ℕ → Skip
code_last start b at n = cond (eqb b 0) (Ok (at, n)) (Err (refusal UnterminatedCode start, at, n))

abbrev pub code_end : Reading → ℕ → List ℕ → ℕ → Skip
code_end rd start cs at = walk (code_turn rd) (code_last start) 0 cs at

-- the greatest depth of the block comments in the code
abbrev pub code_depth_of : Reading → List ℕ → ℕ → ℕ
code_depth_of rd cs at = walk_depth (code_turn rd) cs at
