use Rattle.std.proofs.Common.{ap, sym, ◌∙◌, arith, drop}
use Rattle.utf8.specs.Utf8.{chars}
use Rattle.reading.specs.Answers.{more}
use Rattle.reading.specs.Attribute.{advances_of, attribute_token, hash, hash_by}
use Rattle.tok.specs.Fits.{attempt-most, dropped-most}
use Rattle.reading.specs.Steps.{hash-closed}
use Rattle.reading.specs.declared.Call.{Call}
use Rattle.tok.proofs.attribute.hash.Goals as goal

pub more-requires : goal.more-requires
unfolding attribute_token
more-requires c = let e = ap (λ (x : Call). x.advances) c.attribute_token.ensures in omega (arith, e, dropped-most c.args.rd (chars (drop c.in-Ok.p c.args.s.now)), ap advances_of (sym c.in-Ok.ensures), attempt-most c.args.s.now c.args.at)

pub returns-in-Ok : goal.returns-in-Ok
returns-in-Ok c = c.more.ensures ∙ ap (more _) c.attribute_token.ensures ∙ sym (hash-closed _ c.args.s.now c.args.at _ _ _ (sym c.in-Ok.ensures))

pub returns-in-Err : goal.returns-in-Err
unfolding hash
returns-in-Err c = c.plain.ensures ∙ ap (hash_by c.args.rd c.args.o (chars (drop c.args.at c.args.s.now)) c.args.at) (sym c.in-Err.is ∙ c.shebang_attribute.ensures)
