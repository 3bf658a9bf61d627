use Rattle.std.proofs.Common.{sym, ap, ◌∙◌, arith}
use Rattle.scan.specs.Far.{fits}
use Rattle.scan.specs.Passes.{seek-at}
use Rattle.scan.specs.Until.{left}
use Rattle.scan.specs.declared.Sought.TheVariants.{Hashes}
use Rattle.reading.specs.Answers.{more}
use Rattle.reading.proofs.Calls.{hashed_fair}
use Rattle.tok.specs.Fits.{fair_fits}
use Rattle.reading.specs.Steps.{regex_at, regex_never}
use Rattle.tok.proofs.regex.regex_literal.Goals as goal

pub more-requires : goal.more-requires
more-requires c = omega (arith, (seek-at _ _ _ _ Hashes (sym c.in-Ok.ensures)).within, fits c.args.s.now c.args.at, fair_fits c.args.s.now c.in-Ok.place c.hashed.ensures (hashed_fair _ _ _ _ _ _))

pub returns-in-Ok : goal.returns-in-Ok
returns-in-Ok c = c.more.ensures ∙ ap (more _) c.hashed.ensures ∙ sym (regex_at _ c.args.s.now c.args.at _ _ _ _ (sym c.in-Ok.ensures))

pub returns-in-Err : goal.returns-in-Err
returns-in-Err c = c.refuse.ensures ∙ sym (regex_never _ c.args.s.now c.args.at _ _ (left c.args.s.now c.args.o) c.args.o (sym c.in-Err.ensures))
