use Rattle.summed.specs.Summed.{token_onto}
use Rattle.summed.proofs.token_onto.Goals as goal

pub returns : goal.returns
unfolding token_onto
returns c =
    rw (
      ← c.between-width.ensures.0,
      ← c.dropped-gone.ensures.0,
      ← c.failed.ensures,
    )
    (rw (
      ← c.more.ensures,
      ← c.more-2.ensures,
      ← c.more-3.ensures,
      ← c.more-4.ensures,
    ) c.fewer.ensures)
