use Rattle.sheet.specs.Adds.{work_limit}
use Rattle.table.specs.Laws.{put-more, total-small, within-at}
use Rattle.table.specs.Table.{token_lines}
use Rattle.text.specs.Bytes.{bytes}
use Rattle.table.proofs.tokens_onto.Goals as goal

pub kinds_onto-requires-clause-few : goal.kinds_onto-requires-clause-few
kinds_onto-requires-clause-few c = λ k h. within-at work_limit c.args.counts.now k c.requires.1 h

pub kinds_onto-requires-clause-share : goal.kinds_onto-requires-clause-share
kinds_onto-requires-clause-share c = total-small _ _ c.requires.0 c.requires.1 c.total-all.ensures

pub returns : goal.returns
unfolding bytes token_lines
returns c = rw (← c.total-all.ensures) (put-more _ _ _ _ _ _ _ _ c.plain_line-head.ensures c.kinds_onto.ensures)
