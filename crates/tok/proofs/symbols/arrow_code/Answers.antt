use Rattle.std.proofs.Common.{◌∙◌}
use Rattle.reading.specs.Symbols.{arrow_code}
use Rattle.tok.proofs.symbols.arrow_code.Goals as goal

pub returns : goal.returns
unfolding arrow_code
returns c = c.code_token.ensures ∙ rw (c.code.ensures.0, c.code.ensures.1)
