use Rattle.std.proofs.Common.{refl}
use Rattle.commands.specs.Laws.{no_part, only_part}
use Rattle.files.specs.Laws.{unpack_long, unpack_read}
use Rattle.files.proofs.unpack.Goals as goal

pub returns-then-part-eq0 : goal.returns-then-part-eq0
returns-then-part-eq0 c = unpack_long _ _ _ _ _ _ _ _ _ _ _ _ _ c.header_onto-head.ensures c.if-file-gt-FILE_LIMIT.true (only_part _ _ _ _ _ _ _ _ _ _ _ _ refl c.if-part-eq0.true (rw c.number_of.ensures at c.refusal_line-line.ensures) c.limit_onto-people.ensures)

pub returns-then-file-gt-FILE_LIMIT : goal.returns-then-file-gt-FILE_LIMIT
returns-then-file-gt-FILE_LIMIT c = unpack_long _ _ _ _ _ _ _ _ _ _ _ _ _ c.header_onto-head.ensures c.if-file-gt-FILE_LIMIT.true (no_part _ _ _ _ _ _ _ _ refl c.if-part-eq0.false)

pub returns : goal.returns
returns c = unpack_read _ _ _ _ _ _ _ _ _ _ _ _ _ c.header_onto-head.ensures c.if-file-gt-FILE_LIMIT.false c.read_onto.ensures
