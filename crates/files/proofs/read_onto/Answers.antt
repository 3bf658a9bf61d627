use Rattle.files.specs.Laws.{long_held, read-after, read-end, read_mid, read-not, wide}
use Rattle.files.proofs.read_onto.Goals as goal

pub returns-then-part-last : goal.returns-then-part-last
returns-then-part-last c = let l = c.read_listed in read-end _ _ _ _ l.ensures.0 l.ensures.1 (wide c.blank-records.result c.blank-records.ensures) (long_held c.blank-records.result l.new.records l.auto.records c.blank-records.ensures) _ _ _ _ _ _ c.in-Ok.is _ _ _ _ c.if-part-last.true c.part_onto-lines.ensures c.records_line-end.ensures

pub returns-then-part-eq0 : goal.returns-then-part-eq0
returns-then-part-eq0 c = read-not _ _ c.read_listed.ensures.0 _ _ _ _ _ _ c.in-Err.is _ _ _ _ c.if-part-eq0.true (rw c.number_of.ensures at c.refusal_line-end.ensures) c.file_onto-people.ensures

pub returns-else-part-last : goal.returns-else-part-last
returns-else-part-last c = let l = c.read_listed in read_mid _ _ _ _ l.ensures.0 l.ensures.1 (wide c.blank-records.result c.blank-records.ensures) (long_held c.blank-records.result l.new.records l.auto.records c.blank-records.ensures) _ _ _ _ _ _ c.in-Ok.is _ _ c.if-part-last.false c.part_onto-lines.ensures

pub returns-else-part-eq0 : goal.returns-else-part-eq0
returns-else-part-eq0 c = read-after _ _ c.read_listed.ensures.0 _ _ _ _ _ _ c.in-Err.is c.if-part-eq0.false
