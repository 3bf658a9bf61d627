use Rattle.std.proofs.Common.{◌/◌, ◌∙◌, length, arith}
use Rattle.ltk.specs.Ltk.{group_size}
use Rattle.ltk.proofs.Reading.{fits-room, numbers_read}
use Rattle.ltk.proofs.read_numbers.Goals as goal

pub fill_numbers-requires : goal.fill_numbers-requires
fill_numbers-requires c =
    let h = fits-room c.args.file.now (length c.args.list.now / group_size) _ _ c.read_answer-answer.ensures c.count_of.ensures in
    omega (arith, h)

pub returns : goal.returns
returns c =
    (c.read_answer-answer.ensures, c.fill_numbers.ensures ∙ numbers_read c.args.file.now c.args.list.now _ _ c.read_answer-answer.ensures c.count_of.ensures)
