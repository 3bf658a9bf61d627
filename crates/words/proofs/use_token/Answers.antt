use Rattle.std.proofs.Common.{◌∙◌}
use Rattle.reading.specs.Words.{use_token}
use Rattle.words.proofs.use_token.Goals as goal

pub returns : goal.returns
unfolding use_token
returns c = c.code_token.ensures ∙ rw (c.code.ensures.0, c.code.ensures.1)
