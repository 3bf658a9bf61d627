use Rattle.filing.specs.Laws.{file_long, file-read}
use Rattle.filing.proofs.take_file.Goals as goal

pub returns-then-text-gt-FILE_LIMIT : goal.returns-then-text-gt-FILE_LIMIT
returns-then-text-gt-FILE_LIMIT c = file_long _ _ _ _ _ _ c.if-text-gt-FILE_LIMIT.true c.limit_onto-limit.ensures

pub returns : goal.returns
returns c = file-read _ _ _ _ _ _ _ _ _ c.if-text-gt-FILE_LIMIT.false c.take-t.ensures.0 c.take-t.ensures.1 c.is_refused.ensures c.taken_onto-people.ensures
