use Rattle.std.proofs.Common.{arith, refl}
use Rattle.reading.specs.declared.Outcome.TheVariants.{Ended, Running}
use Rattle.commands.specs.Laws.{stored-room}
use Rattle.files.specs.Laws.{pack_ended, pack_long, pack_refused, wide}
use Rattle.files.proofs.pack.Goals as goal

pub returns-then-text-gt-TEXT_LIMIT : goal.returns-then-text-gt-TEXT_LIMIT
returns-then-text-gt-TEXT_LIMIT c = (pack_long _ _ _ _ _ _ c.if-text-gt-TEXT_LIMIT.true c.limit_onto-people.ensures, refl)

pub write_onto-requires : goal.write_onto-requires
write_onto-requires c = let r = c.run_listed-ran in omega (arith, stored-room _ _ _ _ _ _ r.ensures.0, r.auto.records, c.blank-records.ensures)

pub write_onto-requires-in-Running : goal.write_onto-requires-in-Running
write_onto-requires-in-Running c = let r = c.run_listed-ran in omega (arith, stored-room _ _ _ _ _ _ r.ensures.0, r.auto.records, c.blank-records.ensures)

pub returns-in-Refused : goal.returns-in-Refused
returns-in-Refused c = (pack_refused _ _ _ _ _ c.start.ensures c.run_listed-ran.ensures.0 c.run_listed-ran.ensures.1 (wide c.blank-records.result c.blank-records.ensures) c.if-text-gt-TEXT_LIMIT.false _ _ _ _ _ _ c.in-Refused.is c.refused_onto-people.ensures, refl)

pub returns-in-Ended : goal.returns-in-Ended
returns-in-Ended c = (pack_ended _ _ _ _ _ c.start.ensures c.run_listed-ran.ensures.0 c.run_listed-ran.ensures.1 (wide c.blank-records.result c.blank-records.ensures) c.if-text-gt-TEXT_LIMIT.false _ _ _ Ended _ _ _ _ c.in-Ended.is tt c.write_onto.ensures.0, c.write_onto.ensures.1)

pub returns-in-Running : goal.returns-in-Running
returns-in-Running c = (pack_ended _ _ _ _ _ c.start.ensures c.run_listed-ran.ensures.0 c.run_listed-ran.ensures.1 (wide c.blank-records.result c.blank-records.ensures) c.if-text-gt-TEXT_LIMIT.false _ _ _ Running _ _ _ _ c.in-Running.is tt c.write_onto-in-Running.ensures.0, c.write_onto-in-Running.ensures.1)
