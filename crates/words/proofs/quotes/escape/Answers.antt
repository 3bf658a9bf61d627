use Rattle.std.proofs.Common.{ap, sym, ◌∙◌, arith}
use Rattle.scan.specs.Far.{closed-within}
use Rattle.scan.specs.Passes.{backtick_past}
use Rattle.reading.specs.Quotes.{escape, string_or_char_literal}
use Rattle.words.proofs.quotes.escape.Goals as goal

pub string_or_char_literal-requires : goal.string_or_char_literal-requires
string_or_char_literal-requires c = λ p m e. let h = closed-within c.args.s.now c.args.at p m (backtick_past _ _ p m (sym c.take_until.ensures ∙ e)) in (omega arith, omega arith)

pub returns : goal.returns
unfolding escape
returns c = c.string_or_char_literal.ensures ∙ ap (string_or_char_literal _ _ _ _) c.take_until.ensures
