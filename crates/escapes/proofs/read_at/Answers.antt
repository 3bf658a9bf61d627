use Rattle.utf8.specs.Picks.{picks}
use Rattle.escapes.specs.Escapes.{stands}
use Rattle.escapes.proofs.read_at.Goals as goal

pub returns-then-byte-eq92 : goal.returns-then-byte-eq92
unfolding stands
returns-then-byte-eq92 c = search picks

pub returns : goal.returns
unfolding stands
returns c = search picks
