use Rattle.std.proofs.Common.{length-take-le, sym, arith}
use Rattle.table.specs.Laws.{put-more, small-four, small-kinds, total-small}
use Rattle.table.specs.Table.{shown_lines}
use Rattle.table.proofs.shown.Goals as goal

pub total-all-requires : goal.total-all-requires
total-all-requires c = small-four c.args.sheet.now c.requires.0 c.requires.1

pub slice_bounds-tokens_onto-end : goal.slice_bounds-tokens_onto-end
slice_bounds-tokens_onto-end c = sym (length-take-le 54 c.args.sheet.now (omega (arith, c.requires.0)))

pub tokens_onto-tokens-requires : goal.tokens_onto-tokens-requires
tokens_onto-tokens-requires c = small-kinds c.args.sheet.now c.requires.0 c.requires.1

pub characters_onto-characters-requires : goal.characters_onto-characters-requires
characters_onto-characters-requires c = let w = small-four c.args.sheet.now c.requires.0 c.requires.1 in (c.requires.0, c.requires.1, total-small _ _ w.0 w.1 c.total-all.ensures)

pub slice_bounds-foot_onto-end : goal.slice_bounds-foot_onto-end
slice_bounds-foot_onto-end c = sym (length-take-le 54 c.args.sheet.now (omega (arith, c.requires.0)))

pub returns : goal.returns
unfolding shown_lines
returns c = rw (← c.total-all.ensures) (put-more _ _ _ _ _ _ _ _ c.tokens_onto-tokens.ensures (put-more _ _ _ _ _ _ _ _ c.characters_onto-characters.ensures (put-more _ _ _ _ _ _ _ _ c.advances_onto-advances.ensures (put-more _ _ _ _ _ _ _ _ c.texts_onto-texts.ensures c.foot_onto.ensures))))
