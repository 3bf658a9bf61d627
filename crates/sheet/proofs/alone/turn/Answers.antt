use Rattle.std.proofs.Common.{sym, ◌∙◌}
use Rattle.sheet.specs.Calls.{gapped, open_read, open_small}
use Rattle.sheet.proofs.alone.turn.Goals as goal

-- src/alone.rt:202:28
pub lost-requires : goal.lost-requires
lost-requires c = (c.requires.spent, open_small c.args.text.now c.args.at c.args.count c.args.row.now c.requires _ _ (sym c.in-Err.ensures))

-- src/alone.rt:204:13
pub after_gap-requires : goal.after_gap-requires
after_gap-requires c = (c.requires, gapped c.args.text.now c.args.at c.args.count _ _ _ _ (sym c.in-Ok.ensures))

-- src/alone.rt:197:1
pub returns-in-Err : goal.returns-in-Err
returns-in-Err c =
    let z = open_read c.args.text.now c.args.at c.args.count c.args.row.now c.requires _ _ (sym c.in-Err.ensures) in
    (c.lost.ensures ∙ z.0, z.1)
