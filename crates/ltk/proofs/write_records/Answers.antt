use Rattle.std.proofs.Common.{List, ℕ, length, ap, ◌∙◌}
use Rattle.std.proofs.lemmas.List.Edits.{sets}
use Rattle.ltk.specs.Layout.{header_size}
use Rattle.ltk.specs.Ltk.{records_bytes, listed}
use Rattle.ltk.proofs.Writing.{image-fits, too_long, answered, none, all}
use Rattle.ltk.proofs.write_records.Goals as goal

pub returns-then-count-ge-COUNT_LIMIT : goal.returns-then-count-ge-COUNT_LIMIT
returns-then-count-ge-COUNT_LIMIT g c f h = too_long f c.args.count c.args.out.now c.if-count-ge-COUNT_LIMIT.true

pub returns-in-Ok : goal.returns-in-Ok
returns-in-Ok g c f h =
    let j = c.test.ensures.judged f h in
    let b = c.bytes_for-answer.ensures in
    let o = c.args.out.now in
    let fits = image-fits c.args.count (length o) c.test.result c.in-Ok.field-0 c.test.ensures.all c.in-Ok.ensures in (
      answered f c.args.count o c.if-count-ge-COUNT_LIMIT.false _ j _ b,
      c.put_records.ensures f h ∙ ap (λ (l : List ℕ). sets l header_size (records_bytes (listed f 0 c.args.count))) c.put_header.ensures
          ∙ all f c.args.count o c.if-count-ge-COUNT_LIMIT.false _ j _ b _ c.in-Ok.is fits,
    )

pub returns-in_default : goal.returns-in_default
returns-in_default g c f h =
    let j = c.test.ensures.judged f h in
    let b = c.bytes_for-answer.ensures in (
      answered f c.args.count c.args.out.now c.if-count-ge-COUNT_LIMIT.false _ j _ b,
      none f c.args.count c.args.out.now c.if-count-ge-COUNT_LIMIT.false _ j _ b _ c.in_default.is,
    )
