use Rattle.std.proofs.Common.{ℕ, ◌*◌, ap}
use Rattle.commands.specs.Laws.{chunk_full, chunk-left, chunk-none}
use Rattle.commands.proofs.chunk_onto.Goals as goal

pub returns-then-count-part : goal.returns-then-count-part
returns-then-count-part c = chunk-none _ _ _ c.args.records.now _ _ c.if-count-part.true

pub returns-then-left-gt-CHUNK : goal.returns-then-left-gt-CHUNK
returns-then-left-gt-CHUNK c = chunk_full _ _ _ c.args.records.now _ _ _ (ap (λ (k : ℕ). k * (8192 * c.args.part)) c.group_size.ensures.0) _ _ c.if-left-gt-CHUNK.true c.records_onto.ensures

pub returns : goal.returns
returns c = chunk-left _ _ _ c.args.records.now _ _ _ (ap (λ (k : ℕ). k * (8192 * c.args.part)) c.group_size.ensures.0) _ _ c.if-left-gt-CHUNK.false c.records_onto-2.ensures
