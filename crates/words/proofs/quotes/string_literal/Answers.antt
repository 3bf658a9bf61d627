use Rattle.std.proofs.Common.{ap, refl, sym, ◌∙◌, arith}
use Rattle.utf8.specs.Chars.{'dquote}
use Rattle.utf8.specs.Utf8.{width_of}
use Rattle.scan.specs.Far.{closed-within}
use Rattle.scan.specs.Passes.{string_past}
use Rattle.reading.specs.Quotes.{string_literal, string_or_char_literal}
use Rattle.words.proofs.quotes.string_literal.Goals as goal

pub string_or_char_literal-requires : goal.string_or_char_literal-requires
unfolding width_of
string_or_char_literal-requires c = λ p m e. let h = closed-within c.args.s.now c.args.at p m (string_past _ _ p m 'dquote refl (sym c.string_end.ensures ∙ e)) in (omega arith, omega arith)

pub returns : goal.returns
unfolding string_literal
returns c = c.string_or_char_literal.ensures ∙ ap (string_or_char_literal _ _ _ _) c.string_end.ensures
