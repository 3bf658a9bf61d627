use Rattle.std.proofs.Common.{◌≡◌, arith}
use Rattle.summed.specs.Summed.{between}
use Rattle.summed.specs.Laws.{between_le}
use Rattle.summed.proofs.between.Goals as goal

pub returns : goal.returns
unfolding between
returns c =
    let a = c.args in
    let e : c.characters.result ≡ between a.text.now a.from a.to = rw (← c.saturating_sub.ensures, ← c.rest.ensures, ← c.front.ensures) c.characters.ensures.0 in
    (e, omega (arith, e, between_le a.text.now a.from a.to))
