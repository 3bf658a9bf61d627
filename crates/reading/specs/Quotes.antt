-- Backtick escapes, strings, and what a quote starts.
use Rattle.std.specs.Prelude.{◌+◌, ℕ, cond, List, [], ◌∷◌, drop, Ok, Err}
use Rattle.utf8.specs.Chars.{'dquote, 'quote}
use Rattle.unicode_xid.specs.Identifier.{is_identifier_start}
use Rattle.record.specs.declared.Code.{Code}
use Rattle.record.specs.declared.Code.TheVariants.{UnterminatedCharacterLiteral, UnterminatedEscape, UnterminatedStringLiteral}
use Rattle.record.specs.declared.Kind.{Kind}
use Rattle.record.specs.declared.Kind.TheVariants.{CharLiteral, Escape, Lifetime, StringLiteral}
use Rattle.scan.specs.IfNext.{if_next}
use Rattle.scan.specs.Readers.{string_end}
use Rattle.scan.specs.Seek.{seek}
use Rattle.scan.specs.Shapes.{Found}
use Rattle.scan.specs.declared.Sought.TheVariants.{Backtick, Word}
use Rattle.reading.specs.Answers.{deliver, refuse}
use Rattle.reading.specs.declared.Call.{Call}

-- what stands from at to its closing mark is the payload; the opening mark stands at o
abbrev pub string_or_char_literal : Kind → Code → ℕ → ℕ → Found → Call
string_or_char_literal kind code o at (Ok (p, m)) = deliver kind o at p (p + 1) (m + 1)
string_or_char_literal kind code o at (Err (p, m)) = refuse code o p m

-- 01: "Backticks hold an escape, no escaping inside."
unfoldable pub escape : ℕ → List ℕ → ℕ → Call
escape o cs at = string_or_char_literal Escape UnterminatedEscape o at (seek Backtick cs at)

-- 01: "Strings end at the first `"` that isn't escaped by a backslash; 5 exactly if there is none."
unfoldable pub string_literal : ℕ → List ℕ → ℕ → Call
string_literal o cs at = string_or_char_literal StringLiteral UnterminatedStringLiteral o at (string_end 'dquote cs at)

-- 01: "Otherwise a literal to the next unescaped `'`."
unfoldable pub char_literal : ℕ → List ℕ → ℕ → Call
char_literal o cs at = string_or_char_literal CharLiteral UnterminatedCharacterLiteral o at (string_end 'quote cs at)

-- 01: "`'` then identifier start: the word; a `'` directly after makes it `CharLiteral`, else `Lifetime`, whose payload includes the quote."
-- a word after a quote: a quote directly after it makes a literal; else a lifetime, whose payload includes the quote
abbrev pub lifetime_by : ℕ → List ℕ → ℕ → Found → Call
lifetime_by o cs at (Ok (p, m)) = if_next 'quote (drop m cs) (deliver CharLiteral o at p (p + 1) (m + 1)) (deliver Lifetime o o p p m)
lifetime_by o cs at (Err (p, m)) = deliver Lifetime o o p p m

unfoldable pub lifetimeish : ℕ → List ℕ → ℕ → Call
lifetimeish o [] at = refuse UnterminatedCharacterLiteral o at 0
lifetimeish o (c ∷ cs) at = cond (is_identifier_start c) (lifetime_by o (c ∷ cs) at (seek Word (c ∷ cs) at)) (char_literal o (c ∷ cs) at)
