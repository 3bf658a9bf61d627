use Rattle.std.proofs.Common.{length, sym, length-take-le}
use Rattle.ltk.proofs.Reading.{fits-room, tokens-read}
use Rattle.ltk.proofs.read.Goals as goal

pub slice_bounds-fill_tokens-end : goal.slice_bounds-fill_tokens-end
slice_bounds-fill_tokens-end c = fits-room c.args.file.now (length c.args.list.now) _ _ c.read_answer-answer.ensures c.count_of-n.ensures

pub slice_bounds-fill_tokens-end-2 : goal.slice_bounds-fill_tokens-end-2
slice_bounds-fill_tokens-end-2 c =
    sym (length-take-le c.count_of-n.result c.args.list.now (fits-room c.args.file.now (length c.args.list.now) _ _ c.read_answer-answer.ensures c.count_of-n.ensures))

pub returns : goal.returns
returns c =
    (c.read_answer-answer.ensures, tokens-read c.args.file.now c.args.list.now _ _ c.read_answer-answer.ensures c.count_of-n.ensures _ c.fill_tokens.ensures)
