use Rattle.text.specs.Bytes.{bytes}
use Rattle.shown.proofs.Going.{number-none, number-put}
use Rattle.shown.proofs.page.number_onto.Goals as goal

pub returns-then-n-eq0 : goal.returns-then-n-eq0
returns-then-n-eq0 c = number-none _ _ _ _ c.if-n-eq0.true

pub returns : goal.returns
unfolding bytes
returns c =
    number-put _ _ _ _ c.if-n-eq0.false _ _ _ _ _ _ _ _ c.put-spaced.ensures c.number-named.ensures c.put-parted.ensures c.number.ensures
