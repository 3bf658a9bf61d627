use Rattle.std.proofs.Math.ListN.{replicate, length-replicate}
use Rattle.lent.proofs.Listed.{stored-within, run_copied}
use Rattle.lent.proofs.run_listed.Goals as goal

pub copy_first-requires : goal.copy_first-requires
copy_first-requires c = stored-within c.args.text.now c.args.shift c.args.limit c.args.from (replicate 32768 c.no_token-none.result) (length-replicate 32768 c.no_token-none.result) c.run-ran.result c.run-ran.new.list c.run-ran.ensures

pub returns : goal.returns
returns c = run_copied c.args.text.now c.args.shift c.args.limit c.args.from (replicate 32768 c.no_token-none.result) (length-replicate 32768 c.no_token-none.result) c.run-ran.result c.run-ran.new.list c.run-ran.ensures c.args.records.now c.copy_first.new.records c.copy_first.ensures
