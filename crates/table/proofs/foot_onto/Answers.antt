use Rattle.std.proofs.Common.{sym, ◌∙◌}
use Rattle.table.specs.Laws.{put_first, put-more, put-none, put_one}
use Rattle.table.specs.Table.{foot}
use Rattle.text.specs.Bytes.{bytes}
use Rattle.table.proofs.foot_onto.Goals as goal

pub returns-then-all_occur : goal.returns-then-all_occur
unfolding foot
returns-then-all_occur c = rw (sym c.all_occur.ensures ∙ c.if-all_occur.true) (put-none _ _)

pub returns : goal.returns
unfolding bytes foot
returns c = rw (sym c.all_occur.ensures ∙ c.if-all_occur.false) (put_first _ _ _ _ _ _ _ _ c.put-head.ensures (put-more _ _ _ _ _ _ _ _ c.each_onto-names.ensures (put_one _ _ _ _ _ c.put.ensures)))
