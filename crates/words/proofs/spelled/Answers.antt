use Rattle.std.proofs.Common.{◌∙◌}
use Rattle.words.specs.Letters.{spells_bytes}
use Rattle.words.proofs.spelled.Goals as goal

pub returns : goal.returns
returns c = c.eq.ensures ∙ spells_bytes c.args.word.now c.args.s.now c.args.at c.args.p c.requires.2 c.requires.0 c.requires.1
