use Rattle.asked.proofs.Laws.{size_least}
use Rattle.asked.proofs.texts.size.Goals as goal

pub returns : goal.returns
returns c = size_least c.args.tokens c.min.result c.min.ensures
