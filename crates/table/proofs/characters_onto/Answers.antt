use Rattle.std.proofs.Common.{arith}
use Rattle.table.specs.Laws.{put-more, small_at}
use Rattle.table.specs.Table.{character_lines}
use Rattle.text.specs.Bytes.{bytes}
use Rattle.table.proofs.characters_onto.Goals as goal

pub share_line-tokens-requires : goal.share_line-tokens-requires
share_line-tokens-requires c = (small_at c.args.sheet.now c.requires.0 c.requires.1 54 (omega arith), c.requires.2)

pub share_line-white-requires : goal.share_line-white-requires
share_line-white-requires c = (small_at c.args.sheet.now c.requires.0 c.requires.1 55 (omega arith), c.requires.2)

pub share_line-comments-requires : goal.share_line-comments-requires
share_line-comments-requires c = (small_at c.args.sheet.now c.requires.0 c.requires.1 56 (omega arith), c.requires.2)

pub share_line-requires : goal.share_line-requires
share_line-requires c = (small_at c.args.sheet.now c.requires.0 c.requires.1 57 (omega arith), c.requires.2)

pub returns : goal.returns
unfolding bytes character_lines
returns c = put-more _ _ _ _ _ _ _ _ c.plain_line-head.ensures (put-more _ _ _ _ _ _ _ _ c.share_line-tokens.ensures (put-more _ _ _ _ _ _ _ _ c.share_line-white.ensures (put-more _ _ _ _ _ _ _ _ c.share_line-comments.ensures c.share_line.ensures)))
