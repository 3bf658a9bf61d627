use Rattle.reading.specs.Answers.{deliver}
use Rattle.reading.specs.Attribute.{attribute_token}
use Rattle.tok.proofs.attribute.attribute_token.Goals as goal

pub returns : goal.returns
unfolding attribute_token deliver
returns c = rw (c.deliver-x.ensures, c.dropped-t.ensures.0, c.dropped-t.ensures.1)
