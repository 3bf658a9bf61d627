use Rattle.std.proofs.Common.{rules, ◌≡◌, ◌∙◌}
use Rattle.std.specs.Prelude.{count_by}
use Rattle.asked.proofs.Laws.{is_written, written_count}
use Rattle.asked.proofs.expansions.written.Goals as goal

pub returns : goal.returns
returns c =
    let e : c.count.result ≡ count_by is_written c.args.buffer.now = search rules in
    e ∙ written_count c.args.buffer.now
