use Rattle.commands.specs.Laws.{five_of}
use Rattle.commands.proofs.records_of.Goals as goal

pub returns-in-Five : goal.returns-in-Five
returns-in-Five c = let r = c.run_listed in rw c.in-Five.is (five_of _ _ _ _ _ _ c.start_in.ensures r.ensures.0 r.ensures.1 c.requires)
