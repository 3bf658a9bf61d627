use Rattle.std.proofs.Common.{sym, ap, ◌∙◌}
use Rattle.run.specs.declared.Ran.{Ran}
use Rattle.commands.specs.Laws.{run-last, run_mid, stored-fits, stored-room}
use Rattle.commands.proofs.run_onto.Goals as goal

pub chunk_onto-lines-requires : goal.chunk_onto-lines-requires
chunk_onto-lines-requires c = let r = c.records_of-ran in stored-fits c.args.group _ _ (stored-room _ _ _ _ _ _ r.ensures.0) (c.blank-records.ensures ∙ sym r.auto.records)

pub returns-then-part-last : goal.returns-then-part-last
returns-then-part-last c =
    let r = c.records_of-ran in
    let h = ap (λ (x : Ran). x.how) r.ensures.0 in
    run-last _ _ _ _ _ _ r.ensures.0 r.ensures.1 _ _ _ _ _ _ _ _ _ _ _ c.if-part-last.true c.chunk_onto-lines.ensures c.last_onto-end.ensures (rw h at c.people_onto-people.ensures)

pub returns : goal.returns
returns c = let r = c.records_of-ran in run_mid _ _ _ _ _ _ r.ensures.0 r.ensures.1 _ _ _ _ _ _ _ c.if-part-last.false c.chunk_onto-lines.ensures
