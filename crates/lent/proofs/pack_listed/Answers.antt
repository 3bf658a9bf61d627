use Rattle.std.proofs.Common.{◌≡◌, ℕ, List, length, take, sym, ◌∙◌, length-take-le}
use Rattle.std.proofs.Math.ListN.{replicate, length-replicate}
use Rattle.record.specs.declared.Token.{Token}
use Rattle.run.specs.Checked.{whole_run}
use Rattle.reading.specs.Answers.{start_state}
use Rattle.lent.specs.Copies.{highest_limit}
use Rattle.lent.proofs.Listed.{stored_is, stored-within, first-is, run-packed}
use Rattle.lent.proofs.pack_listed.Goals as goal

pub slice_bounds-list-end : goal.slice_bounds-list-end
slice_bounds-list-end c = stored-within c.args.text.now 0 highest_limit c.start.result (replicate 32768 c.no_token-none.result) (length-replicate 32768 c.no_token-none.result) c.run-ran.result c.run-ran.new.list c.run-ran.ensures

pub slice_bounds-write-end : goal.slice_bounds-write-end
slice_bounds-write-end c =
    let w = stored-within c.args.text.now 0 highest_limit c.start.result (replicate 32768 c.no_token-none.result) (length-replicate 32768 c.no_token-none.result) c.run-ran.result c.run-ran.new.list c.run-ran.ensures in
    sym (length-take-le c.run-ran.result.stored c.run-ran.new.list w)

pub returns : goal.returns
returns c =
    let n = stored_is c.args.text.now 0 highest_limit c.start.result (replicate 32768 c.no_token-none.result) (length-replicate 32768 c.no_token-none.result) c.run-ran.result c.run-ran.new.list c.run-ran.ensures in
    let ts : List Token = (whole_run c.args.text.now 0 highest_limit (length (replicate 32768 c.no_token-none.result)) c.start.result).tokens in
    let f : take c.run-ran.result.stored c.run-ran.new.list ≡ ts = first-is ts (replicate 32768 c.no_token-none.result) c.run-ran.new.list c.run-ran.ensures.1 c.run-ran.result.stored n in
    run-packed c.args.text.now 0 highest_limit c.start.result start_state c.start.ensures (replicate 32768 c.no_token-none.result) (length-replicate 32768 c.no_token-none.result) c.run-ran.result c.run-ran.ensures.0 c.write-written.result c.args.file.now c.write-written.new.out (rw f at c.write-written.ensures)
