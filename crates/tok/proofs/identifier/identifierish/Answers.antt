use Rattle.std.proofs.Common.{sym, ap, ◌∙◌, arith}
use Rattle.scan.specs.Far.{fits}
use Rattle.scan.specs.Passes.{seek-at, seek-none}
use Rattle.scan.specs.declared.Sought.TheVariants.{Word}
use Rattle.reading.specs.Answers.{more}
use Rattle.reading.proofs.Calls.{word_fair}
use Rattle.tok.specs.Fits.{fair_fits}
use Rattle.reading.specs.Steps.{word_at, word_none}
use Rattle.tok.proofs.identifier.identifierish.Goals as goal

pub more-requires : goal.more-requires
more-requires c = omega (arith, (seek-at _ _ _ _ Word (sym c.in-Ok.ensures)).within, fits c.args.s.now c.args.at, fair_fits c.args.s.now c.in-Ok.place c.word_token.ensures (word_fair _ _ _ _ _))

pub more-requires-in-Err : goal.more-requires-in-Err
more-requires-in-Err c = omega (arith, (seek-none _ _ _ _ Word (sym c.in-Err.ensures)).within, fits c.args.s.now c.args.at, fair_fits c.args.s.now c.in-Err.place c.word_token-in-Err.ensures (word_fair _ _ _ _ _))

pub returns-in-Ok : goal.returns-in-Ok
returns-in-Ok c = c.more.ensures ∙ ap (more _) c.word_token.ensures ∙ sym (word_at _ c.args.s.now c.args.at _ _ _ _ (sym c.in-Ok.ensures))

pub returns-in-Err : goal.returns-in-Err
returns-in-Err c = c.more-in-Err.ensures ∙ ap (more _) c.word_token-in-Err.ensures ∙ sym (word_none _ c.args.s.now c.args.at _ _ _ _ (sym c.in-Err.ensures))
