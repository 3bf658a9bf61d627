use Rattle.std.proofs.Math.ListN.{replicate, length-replicate}
use Rattle.lent.proofs.Listed.{read-within, read_copied}
use Rattle.lent.proofs.read_listed.Goals as goal

pub copy_first-requires : goal.copy_first-requires
copy_first-requires c = read-within c.args.file.now (replicate 32768 c.no_token-none.result) (length-replicate 32768 c.no_token-none.result) c.read-answer.result c.read-answer.new.list c.read-answer.ensures c.count_of-count.result c.count_of-count.ensures

pub returns : goal.returns
returns c = read_copied c.args.file.now (replicate 32768 c.no_token-none.result) (length-replicate 32768 c.no_token-none.result) c.read-answer.result c.read-answer.new.list c.read-answer.ensures c.count_of-count.result c.count_of-count.ensures c.args.records.now c.copy_first.new.records c.copy_first.ensures
