use Rattle.std.proofs.Common.{sym, ◌∙◌}
use Rattle.text.specs.Bytes.{bytes}
use Rattle.property.specs.Lines.{range_of}
use Rattle.property.proofs.Texts.{stripped}
use Rattle.property.proofs.line.range.Goals as goal

pub returns-in-Some : goal.returns-in-Some
unfolding bytes range_of
returns-in-Some c =
    let e = c.in-Some.ensures.cases in
    rw (sym (stripped (bytes "..") c.args.s.now) ∙ e.0) (rw e.1 at c.with_last.ensures)

pub returns-in-None : goal.returns-in-None
unfolding bytes range_of
returns-in-None c = rw (sym (stripped (bytes "..") c.args.s.now) ∙ c.in-None.ensures.cases) c.with_name.ensures
